-- The examples, from the law and what the reader gives. Assumes nothing.
use Rattle.std.proofs.Common.{◌≡◌, ℕ, List, [], ◌∷◌, pos, Some, Ok, Err, codes, Result, refl, subst, arith}
use Rattle.drive.specs.declared.axis.Axis.TheVariants.{X}
use Rattle.drive.specs.Axes.{axes, each}
use Rattle.names.specs.Tables.{named}
use Rattle.names.specs.Mount.{mount_names}
use Rattle.names.specs.Bench.{bench_names}
use Rattle.names.specs.Setting.{setting_names}
use Rattle.text.specs.Numbers.{reads}
use Rattle.command.specs.declared.request.Selection.TheVariants.{One, All}
use Rattle.command.specs.declared.request.Refusal.{Refusal}
use Rattle.command.specs.declared.request.Refusal.TheVariants.{Form}
use Rattle.command.specs.declared.request.Settings.{Settings}
use Rattle.command.specs.Fields.{fields}
use Rattle.command.specs.Reading.{read, read_setting}
use Rattle.grammar.specs.Forms.{Addressed, addressed}
use Rattle.grammar.specs.Law.{ThePlace, Meaning, Meant, Undigited, OnMount, OnBench, InSet}
use Rattle.grammar.specs.Examples.{Examples}

infixr 20 ◌&◌
-- the proof of a fact, and those of the facts after it
◌&◌ : {A B : Type 0} → A → B → A × B
a & b = (a, b)

module _ {A : Type 0} {named right : List ℕ → Type 0} {text : List ℕ} {r : Result A Refusal} where
  is_right : (a : A) → r ≡ Ok a → Meant named right text r → right text
  is_right a e m = (subst (Meaning named right text) e (m (λ z. cc))).takes_right (λ x. x)

  is_wrong : (p : ℕ) → r ≡ Err (Form p) → Meant named right text r → (right text → ⊥) × ThePlace right text p
  is_wrong p e m = let w = subst (Meaning named right text) e (m (λ z. cc)) in (w.refuses_wrong tt, w.told.1)

-- units on, of one axis
on : List Settings
on = record { units = Some (record { value = pos 1; places = 0 }) } ∷ []

eight : Addressed Undigited (codes "08TP")
unfolding axes
eight = addressed (48 ∷ 56 ∷ []) (84 ∷ 80 ∷ []) ((omega arith, omega arith), (omega arith, omega arith), omega arith, omega arith) (λ d. omega (arith, d.1))

three : Addressed Undigited (codes "3ST1")
unfolding axes
three = addressed (51 ∷ []) (83 ∷ 84 ∷ 49 ∷ []) ((omega arith, omega arith), omega arith, omega arith) (λ d. omega (arith, d.1))

pub shown : OnMount → OnBench → InSet → Examples
unfolding on read read_setting reads fields named mount_names bench_names setting_names each axes
shown mount bench set =
    is_right _ refl (mount (One X) X [] (codes "MR5"))
    & is_wrong 3 refl (mount (One X) X [] (codes "MR1.5"))
    & is_right _ refl (mount (One X) X on (codes "mr1.5"))
    & is_wrong 3 refl (mount (One X) X on (codes "MR+"))
    & is_right _ refl (mount (One X) X [] (codes "GO"))
    & is_wrong 2 refl (mount All X [] (codes "GO"))
    & is_right _ refl (mount All X [] (codes "MR,100"))
    & is_wrong 9 refl (mount All X [] (codes "MR,,,,,,,,"))
    & is_right _ refl (bench All X [] (codes "08TP") eight)
    & is_wrong 3 refl (bench All X [] (codes "3ST1") three)
    & is_right _ refl (set (codes "iok,c"))
    & is_wrong 4 refl (set (codes "IOK,5"))
    & tt
