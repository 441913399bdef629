-- Entries that are checked one after the other.
use Rattle.std.proofs.Common.{◌≡◌, ◌∙◌, refl, ◌++◌, sym, subst, ℕ, zero, suc, get_or, length, ◌<◌, ◌≤◌, arith, List, [], ◌∷◌, inl, inr}
use Rattle.std.proofs.lemmas.Bool.{cases_lt}
use Rattle.lrat_tool.specs.Pieces.{AllRight, AreFound, Follow, IsFoundAmong, IsFoundOf, LogSeen, joined_of}
use Rattle.lrat_tool.specs.declared.found.Found.{Found}
use Rattle.lrat_tool.specs.declared.found.Found.TheVariants as found
use Rattle.lrat_tool.specs.declared.piece.Piece.{Piece}

-- a piece of those that follow one another ends within
pub ends_within : (a b : ℕ) (ps : List Piece) (i : ℕ) (x : Piece) → Follow a ps b → i < length ps → x ≡ get_or ps i x → x.end ≤ b
ends_within a b [] i x f l e = absurd (omega (arith, l))
ends_within a b (p ∷ ps) zero x f l e = let g = follow_le p.end b ps f.1 in subst (λ (q : Piece). q.end ≤ b) (sym e) g
  where
    follow_le : (a b : ℕ) (ps : List Piece) → Follow a ps b → a ≤ b
    follow_le a b [] f = omega (arith, f)
    follow_le a b (q ∷ ps) f = omega (arith, f.0, q.has_numbers, follow_le q.end b ps f.1)
ends_within a b (p ∷ ps) (suc i) x f l e = ends_within p.end b ps i x f.1 (omega (arith, l)) e

module _ (s : LogSeen) where
  pub all_then : (a b c : ℕ) → AllRight s a b → AllRight s b c → AllRight s a c
  all_then a b c h k n l m = elim (cases_lt n b) [
    | inl e ↦ h n l e
    | inr e ↦ k n e m
  ]

  pub follow_le : (a b : ℕ) (ps : List Piece) → Follow a ps b → a ≤ b
  follow_le a b [] f = omega (arith, f)
  follow_le a b (q ∷ ps) f = omega (arith, f.0, q.has_numbers, follow_le q.end b ps f.1)

  pub joined_found : (a b : ℕ) (ps : List Piece) (fs : List Found) → Follow a ps b → AreFound s ps fs → AllRight s 0 a → IsFoundAmong s 0 b (joined_of fs)
  joined_found a b [] [] f p h = subst (AllRight s 0) f h
  joined_found a b [] (t ∷ fs) f p h = absurd p
  joined_found a b (q ∷ ps) [] f p h = absurd p
  joined_found a b (q ∷ ps) (found.None ∷ fs) f p h =
      let here : AllRight s a q.end = subst (λ (c : ℕ). AllRight s c q.end) f.0 p.0 in
      joined_found q.end b ps fs f.1 p.1 (all_then 0 a q.end h here)
  joined_found a b (q ∷ ps) (found.At k ∷ fs) f p h =
      let here : IsFoundAmong s a q.end (found.At k) = subst (λ (c : ℕ). IsFoundAmong s c q.end (found.At k)) f.0 p.0 in
      (omega arith, omega (arith, here.1, follow_le q.end b ps f.1), here.2, all_then 0 a k h here.3)
  joined_found a b (q ∷ ps) (found.Memory ∷ fs) f p h = tt

  pub none_yet : AllRight s 0 0
  none_yet n l m = absurd (omega (arith, m))

  pub all_found : (ps : List Piece) (fs : List Found) → length fs ≡ length ps → ((i : ℕ) (p : Piece) (f : Found) → i < length ps → IsFoundOf s (get_or ps i p) (get_or fs i f)) → AreFound s ps fs
  all_found [] [] e h = tt
  all_found [] (f ∷ fs) e h = absurd (omega (arith, e))
  all_found (p ∷ ps) [] e h = absurd (omega (arith, e))
  all_found (p ∷ ps) (f ∷ fs) e h = (h 0 p f (omega arith), all_found ps fs (omega (arith, e)) (λ i q t l. h (suc i) q t (omega (arith, l))))

-- a piece more
pub follow_push : (a b : ℕ) (ps : List Piece) (p : Piece) → Follow a ps b → p.first ≡ b → Follow a (ps ++ p ∷ []) p.end
follow_push a b [] p f e = (e ∙ sym f, refl)
follow_push a b (q ∷ ps) p f e = (f.0, follow_push q.end b ps p f.1 e)
