-- Texts with the same first bytes, and where a text ceases to go on with those of a form. Assumes nothing.
use Rattle.std.proofs.Common.{◌≡◌, ℕ, zero, suc, ◌+◌, ◌<◌, ◌≤◌, List, [], ◌∷◌, ◌++◌, length, take, drop, sym, refl, ap, ◌∙◌, subst, arith, length-append}
use lib.Seq.{take-append-add}
use Rattle.std.proofs.lemmas.List.{append_cancel_left, drop-take, take-take}

-- t and bs have the same first n bytes
abbrev pub Agree : ℕ → List ℕ → List ℕ → Type 0
Agree n t bs = take n t ≡ take n bs

pub agree_less : (m n : ℕ) (t bs : List ℕ) → m ≤ n → Agree n t bs → Agree m t bs
agree_less m n t bs l a = sym (take-take m n t l) ∙ ap (take m) a ∙ take-take m n bs l

-- the bytes after the first of both
pub agree_tail : (n b c : ℕ) (t bs : List ℕ) → Agree (suc n) (b ∷ t) (c ∷ bs) → (b ≡ c) × Agree n t bs
agree_tail n b c t bs a = (cc, cc)

pub agree_cons : (n b : ℕ) (t bs : List ℕ) → Agree (suc n) t (b ∷ bs) → (w : List ℕ) × (t ≡ b ∷ w) × Agree n w bs
agree_cons n b [] bs a = absurd (cc)
agree_cons n b (c ∷ t) bs a = (t, cc, cc)

pub agree_nil : (n : ℕ) (t : List ℕ) → Agree (suc n) t [] → t ≡ []
agree_nil n [] a = refl
agree_nil n (c ∷ t) a = cc

-- what is told by the first byte
pub agree_told : {A : Type 0} (f : List ℕ → A) → ((b : ℕ) (bs : List ℕ) → f (b ∷ bs) ≡ f (b ∷ [])) → (t bs : List ℕ) → Agree 1 t bs → f t ≡ f bs
agree_told f first [] [] a = refl
agree_told f first [] (c ∷ bs) a = absurd (cc)
agree_told f first (b ∷ t) [] a = absurd (cc)
agree_told f first (b ∷ t) (c ∷ bs) a = first b t ∙ ap (λ x. f (x ∷ [])) (agree_tail 0 b c t bs a).0 ∙ sym (first c bs)

pub agree_drop : (m n : ℕ) (t bs : List ℕ) → Agree (m + n) t bs → Agree n (drop m t) (drop m bs)
agree_drop m n t bs a = sym (drop-take m n t) ∙ ap (drop m) a ∙ drop-take m n bs

-- the same bytes u before both
pub agree_after : (u : List ℕ) (n : ℕ) (t bs : List ℕ) → Agree n t bs → Agree (length u + n) (u ++ t) (u ++ bs)
agree_after u n t bs a = take-append-add u t n ∙ ap (λ l. u ++ l) a ∙ sym (take-append-add u bs n)

pub agree_before : (u : List ℕ) (n : ℕ) (t bs : List ℕ) → Agree (length u + n) (u ++ t) (u ++ bs) → Agree n t bs
agree_before u n t bs a = append_cancel_left u _ _ (sym (take-append-add u t n) ∙ a ∙ take-append-add u bs n)

-- The first q bytes of bs begin a text of L (which is not asked of none at all), and no text of L has the same first q + 1; bs
-- itself is none.
pub record Misfit (L : List ℕ → Type 0) (bs : List ℕ) (q : ℕ) : Type 0 where
  pub within : q ≤ length bs
  pub fits : 0 < q → (t : List ℕ) × L t × Agree q t bs
  pub none : (t : List ℕ) → L t → Agree (suc q) t bs → ⊥

-- After the bytes u the texts of M are those of L, as far as the byte that follows in bs is theirs too.
pub record Follows (M L : List ℕ → Type 0) (u bs : List ℕ) : Type 0 where
  pub some : 0 < length u → (w : List ℕ) × L w
  pub into : (w : List ℕ) → L w → M (u ++ w)
  pub out : (t : List ℕ) → M t → Agree (length u + 1) t (u ++ bs) → (w : List ℕ) × (t ≡ u ++ w) × L w

module _ {M L : List ℕ → Type 0} (u bs : List ℕ) (f : Follows M L u bs) where
  fits_after : (q : ℕ) → Misfit L bs q → 0 < length u + q → (t : List ℕ) × M t × Agree (length u + q) t (u ++ bs)
  fits_after zero m h = let w = f.some (omega arith) in (u ++ w.0, f.into w.0 w.1, agree_after u 0 w.0 bs refl)
  fits_after (suc q) m h = let t = m.fits (omega arith) in (u ++ t.0, f.into t.0 t.1, agree_after u (suc q) t.0 bs t.2)

  pub misfit_after : (q : ℕ) → Misfit L bs q → Misfit M (u ++ bs) (length u + q)
  misfit_after q m =
      record {
        within = omega (arith, m.within, length-append u bs);
        fits = fits_after q m;
        none =
            λ t mt a.
            let more : suc (length u + q) ≡ length u + suc q = omega arith in
            let o = f.out t mt (agree_less (length u + 1) (suc (length u + q)) t (u ++ bs) (omega arith) a) in
            m.none o.0 o.2 (agree_before u (suc q) o.0 bs (subst (λ x. Agree (length u + suc q) x (u ++ bs)) o.1 (subst (λ n. Agree n t (u ++ bs)) more a)));
      }
