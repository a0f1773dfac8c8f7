-- The places of refusals on port M and in Set. Assumes nothing.
use Rattle.std.proofs.Common.{◌≡◌, ℕ, Bool, false, Option, List, [], ◌∷◌, map, is_some, Ok, refl, ap, subst, arith, rules}
use Rattle.drive.specs.declared.axis.Axis.{Axis}
use Rattle.drive.specs.Axes.{index, each}
use Rattle.names.specs.Laws.{Apart, Lawful}
use Rattle.names.specs.Mount.{mount_names}
use Rattle.names.specs.Setting.{setting_names}
use Rattle.names.proofs.Lawful.{apart_is_lawful}
use Rattle.text.specs.Typed.{Typed}
use Rattle.command.specs.declared.request.Selection.{Selection}
use Rattle.command.specs.declared.request.Selection.TheVariants.{One, All}
use Rattle.command.specs.declared.request.Settings.{Settings}
use Rattle.command.specs.Requests.{Operands}
use Rattle.command.specs.Operands.{units_of, pointed, amount, listed}
use Rattle.text.specs.declared.number.Number.{Number}
use Rattle.command.specs.Fields.{then}
use Rattle.command.specs.Mount.{follows, taking, mount}
use Rattle.command.specs.Mount as reader
use Rattle.command.specs.Sets.{factor, changing}
use Rattle.command.specs.Sets as sets
use Rattle.command.specs.Reading.{fits, read, read_setting}
use Rattle.grammar.specs.Forms.{Named, one_axis, all_axes, in_set}
use Rattle.grammar.specs.Forms as form
use Rattle.grammar.specs.Law.{Begun, RightMount, OnMount, InSet}
use Rattle.grammar.proofs.Shapes.{Reads, never, reads_bare, reads_then, reads_amount, reads_listed, reads_kill}
use Rattle.grammar.proofs.Rules.{Matched, done, row, Outcome, outcome_of, outcome_then, ruled_named, first_rule}
use Rattle.grammar.proofs.Meanings.{meaning, meant}

-- no axis has a point where there are no settings
no_points : (ts : List Settings) → each (pointed []) ≡ map (λ _. false) (each (λ k. is_some (units_of ts k)))
unfolding each
no_points ts = constant _
  where
    constant : (xs : List ℕ) → map (pointed []) xs ≡ map (λ _. false) (map (λ k. is_some (units_of ts k)) xs)
    constant [] = refl
    constant (x ∷ xs) = ap (λ l. false ∷ l) (constant xs)

module _ (law : Typed) where
  reads_wholes : {B : Type 0} (ts : List Settings) (f : Operands → B) → Reads (form.listed (map (λ _. false) (each (λ k. is_some (units_of ts k))))) (λ at bs. then (listed [] at bs) (λ os. Ok (f os)))
  reads_wholes ts f = subst (λ ps. Reads (form.listed ps) (λ at bs. then (listed [] at bs) (λ os. Ok (f os)))) (no_points ts) (reads_then f (reads_listed law []))

  reads_made : {A B : Type 0} (p : Bool) (judge : Number → Option A) (f : A → B) → Reads (form.one p) (λ at bs. then (amount p judge at bs) (λ a. Ok (f a)))
  reads_made p judge f = reads_then f (reads_amount law p judge)

  matched_one : (a : Axis) (ts : List Settings) → Matched (λ n. taking ts (follows n (One a))) mount_names (one_axis (is_some (units_of ts (index a))))
  unfolding mount_names
  matched_one a ts = search (rules, done, row, reads_bare, reads_made) depth 60

  matched_all : (ts : List Settings) → Matched (λ n. taking ts (follows n All)) mount_names (all_axes (each (λ k. is_some (units_of ts k))))
  unfolding mount_names
  matched_all ts = search (rules, done, row, reads_bare, reads_then, reads_listed law, reads_wholes, never) depth 60

  matched_set : Matched changing setting_names in_set
  unfolding setting_names
  matched_set = search (rules, done, row, reads_bare, reads_made, reads_kill law) depth 60

  module _ (apart : Apart mount_names) where
    mount_lawful : Lawful mount_names
    unfolding mount_names
    mount_lawful = apart_is_lawful mount_names (omega arith) apart

    on_mount : (s : Selection) (ts : List Settings) (text : List ℕ) → Outcome (Named (one_axis false)) (RightMount s ts) 0 text (mount s ts text)
    on_mount (One a) ts text = outcome_of (matched_one a ts) refl mount_lawful text (reader.after_name (One a) ts text) (λ y. refl) (λ p. refl)
    on_mount All ts text = outcome_of (matched_all ts) refl mount_lawful text (reader.after_name All ts text) (λ y. refl) (λ p. refl)

    mount_some : (s : Selection) (ts : List Settings) → Begun (RightMount s ts) []
    mount_some (One a) ts = first_rule form.nothing
    mount_some All ts = first_rule form.nothing

    mount_named : (s : Selection) (ts : List Settings) (t : List ℕ) → RightMount s ts t → Named (one_axis false) t
    mount_named (One a) ts t r = ruled_named r
    mount_named All ts t r = ruled_named r

    pub mount_law : OnMount
    unfolding read
    mount_law s last ts text = meant (fits text) (meaning (mount_some s ts) (mount_named s ts) (outcome_then _ (on_mount s ts text)))

  module _ (apart : Apart setting_names) where
    set_lawful : Lawful setting_names
    unfolding setting_names
    set_lawful = apart_is_lawful setting_names (omega arith) apart

    pub set_law : InSet
    unfolding read_setting
    set_law text =
        meant (fits text)
        (meaning (first_rule form.nothing) (λ t r. ruled_named r)
        (outcome_of matched_set refl set_lawful text (sets.after_name text) (λ y. refl) (λ p. refl)))
