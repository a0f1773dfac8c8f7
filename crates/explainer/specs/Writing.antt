-- What a call writes.
use Rattle.std.specs.Prelude.{◌≡◌, ℕ, List, IfOk, string_bytes, Result, String, OnOk}
use Rattle.std.specs.declared.alloc.AllocError.{AllocError}
use Rattle.std.specs.declared.alloc.Global.{Global}

-- where memory did not fail, these words were made
abbrev pub Says : Result (String Global) AllocError → List ℕ → Type 0
Says r words = IfOk r (λ s. string_bytes s ≡ words)

-- where memory did not fail, a text has become these words
abbrev pub Becomes : {T : Type 0} → Result T AllocError → String Global → List ℕ → Type 0
Becomes r after words = OnOk r (string_bytes after ≡ words)
