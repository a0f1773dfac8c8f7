-- What `?` hands on. Assumes nothing.
use Rattle.std.proofs.Common.{◌≡◌, Some, None, Ok, Err, Option, Result, ap, ◌∙◌}
use Rattle.std.specs.Prelude.{IsErr, IsErrAnd}
use Rattle.std.specs.Option.{ok_or}

pub passed_on : {B F : Type 0} (r : Result B F) (f : F) → IsErr r × IsErrAnd r (λ x. x ≡ f) → r ≡ Err f
passed_on (Ok x) f h = let none = h.0 in cc
passed_on (Err y) f h = ap Err h.1

-- `e` is what a missing value was refused by
pub refused_by : {T B F : Type 0} (o : Option T) (r : Result B F) (e f : F) → Err e ≡ ok_or o f → o ≡ None → IsErr r × IsErrAnd r (λ x. x ≡ e) → r ≡ Err f
refused_by None r e f is none h = let same : e ≡ f = cc in passed_on r e h ∙ ap Err same
refused_by (Some x) r e f is none h = cc
