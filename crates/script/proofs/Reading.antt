-- The numbers of a text, word by word. Assumes nothing.
use Rattle.std.proofs.Common.{◌≡◌, ℕ, true, false, eqb, List, [], ◌∷◌, ◌++◌, ℤ, Some, None, Option, sym, refl, ap, ◌∙◌, ⊎_elim, append_assoc, append-nil, Bor}
use Rattle.std.specs.Iterator.{AlwaysYields}
use Rattle.std.specs.List.{slice_split, onto_first}
use Rattle.std.specs.Option.{option_map}
use Rattle.std.proofs.lemmas.Bool.{cases_Bool}
use Rattle.script.specs.Words.{parted, longer, words}
use Rattle.script.specs.Numbers.{then, number, numbers}

longer_is : (b : ℕ) (ws : List (List ℕ)) → onto_first b ws ≡ longer b ws
longer_is b [] = refl
longer_is b (w ∷ ws) = refl

pub words_are : (text : List ℕ) → slice_split (λ b. eqb b 32) text ≡ words text
words_are [] = refl
words_are (b ∷ bs) =
    ⊎_elim
    (λ (t : eqb b 32 ≡ true). rw t (ap (λ ws. [] ∷ ws) (words_are bs)))
    (λ (f : eqb b 32 ≡ false). rw f (longer_is b (slice_split (λ b. eqb b 32) bs) ∙ ap (longer b) (words_are bs)))
    (cases_Bool (eqb b 32))

abbrev pub others : Option (List ℕ) → List (List ℕ)
others None = []
others (Some text) = words text

pub words_parted : (text : List ℕ) → words text ≡ (parted text).0 ∷ others (parted text).1
words_parted [] = refl
words_parted (b ∷ bs) =
    ⊎_elim (λ (t : eqb b 32 ≡ true). rw t refl) (λ (f : eqb b 32 ≡ false). rw f (ap (longer b) (words_parted bs))) (cases_Bool (eqb b 32))

abbrev pub ahead : List ℤ → Option (List ℤ) → Option (List ℤ)
ahead ns o = option_map (λ more. ns ++ more) o

ahead_more : (ns : List ℤ) (n : ℤ) (o : Option (List ℤ)) → ahead (ns ++ (n ∷ [])) o ≡ ahead ns (option_map (λ more. n ∷ more) o)
ahead_more ns n None = refl
ahead_more ns n (Some more) = ap Some (append_assoc ns (n ∷ []) more)

pub ahead_none : (o : Option (List ℤ)) → ahead [] o ≡ o
ahead_none None = refl
ahead_none (Some more) = refl

module _ {S : Type 0} (steps : S → Option (Bor (List ℕ)) → S → Type 0) (text : List ℕ) where
  -- The numbers that are read, and those of the words that are still to come, are those of the text.
  pub record Left (s : S) (ns : List ℤ) : Type 0 where
    pub more : List (List ℕ)
    pub come : AlwaysYields steps (λ x. x.now) s more
    pub same : ahead ns (numbers more) ≡ numbers (words text)

  module _ {s t : S} {ns : List ℤ} (l : Left s ns) where
    pub all_read : steps s None t → Some ns ≡ numbers (words text)
    all_read h = by l.more l.come l.same
      where
        by : (more : List (List ℕ)) → AlwaysYields steps (λ x. x.now) s more → ahead ns (numbers more) ≡ numbers (words text) → Some ns ≡ numbers (words text)
        by [] come same = ap Some (sym (append-nil ns)) ∙ same
        by (w ∷ more) come same = absurd (come.0 t h)

    module _ (word : Bor (List ℕ)) (h : steps s (Some word) t) where
      pub none_read : None ≡ number word.now → None ≡ numbers (words text)
      none_read e = by l.more l.come l.same
        where
          by : (more : List (List ℕ)) → AlwaysYields steps (λ x. x.now) s more → ahead ns (numbers more) ≡ numbers (words text) → None ≡ numbers (words text)
          by [] come same = absurd (come word t h)
          by (w ∷ more) come same =
              ap (λ o. ahead ns (then o (λ n. option_map (λ ms. n ∷ ms) (numbers more)))) (e ∙ ap number (come.1 word t h).0) ∙ same

      pub one_read : (n : ℤ) {ms : List ℤ} → Some n ≡ number word.now → ms ≡ ns ++ (n ∷ []) → Left t ms
      one_read n {ms} e on = by l.more l.come l.same
        where
          by : (more : List (List ℕ)) → AlwaysYields steps (λ x. x.now) s more → ahead ns (numbers more) ≡ numbers (words text) → Left t ms
          by [] come same = absurd (come word t h)
          by (w ∷ more) come same = record {
            more = more;
            come = (come.1 word t h).1;
            same = ap (λ ms. ahead ms (numbers more)) on
                ∙ ahead_more ns n (numbers more)
                ∙ ap (λ o. ahead ns (then o (λ n. option_map (λ ms. n ∷ ms) (numbers more)))) (e ∙ ap number (come.1 word t h).0)
                ∙ same;
          }

pub begun : {S : Type 0} (steps : S → Option (Bor (List ℕ)) → S → Type 0) (text : List ℕ) (s : S) {ns : List ℤ} → ns ≡ [] → AlwaysYields steps (λ x. x.now) s (slice_split (λ b. eqb b 32) text) → Left steps text s ns
begun steps text s none come = record {
  more = slice_split (λ b. eqb b 32) text;
  come = come;
  same = ap (λ ns. ahead ns (numbers (slice_split (λ b. eqb b 32) text))) none ∙ ahead_none _ ∙ ap numbers (words_are text);
}
