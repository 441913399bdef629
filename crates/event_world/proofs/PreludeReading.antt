-- Reading a text one byte further to its front.
use Rattle.std.proofs.Common.{◌≡◌, ◌∙◌, ap, sym, refl, ℕ, suc, ◌+◌, ◌-◌, ◌≤◌, Bool, true, false, cond, List, [], ◌∷◌, length, get_or, take, drop, arith, drop-cons}
use Rattle.std.specs.Prelude.{◌==◌}
use Rattle.event_world.specs.PreludeForms.{Source, Reading, no_more, with_word, opened_into, before_break, before, reading, is_between}

module _ (text : List ℕ) (q : ℕ) (some : 1 ≤ q) (within : q ≤ length text) where
  abbrev byte : ℕ
  byte = get_or text (q - 1) 0

  abbrev r : Reading
  r = reading (drop q text)

  front : drop (q - 1) text ≡ byte ∷ drop q text
  front = let n : suc (q - 1) ≡ q = omega (arith, some) in drop-cons text (q - 1) 0 (omega (arith, some, within)) ∙ ap (λ m. byte ∷ drop m text) n

  one_more : reading (drop (q - 1) text) ≡ before byte r
  one_more = ap reading front

  pub plain : is_between byte ≡ false → reading (drop (q - 1) text) ≡ record { word = byte ∷ r.word; here = r.here; around = r.around }
  plain h = one_more ∙ ap (λ (b : Bool). cond b (before_break byte (with_word r.word r.here) r.around) (record { word = byte ∷ r.word; here = r.here; around = r.around })) h

  pub broken : is_between byte ≡ true → reading (drop (q - 1) text) ≡ before_break byte (with_word r.word r.here) r.around
  broken h = one_more ∙ ap (λ (b : Bool). cond b (before_break byte (with_word r.word r.here) r.around) (record { word = byte ∷ r.word; here = r.here; around = r.around })) h

  pub longer : (e : ℕ) → q ≤ e → byte ∷ take (e - q) (drop q text) ≡ take (e - (q - 1)) (drop (q - 1) text)
  longer e l = let n : e - (q - 1) ≡ suc (e - q) = omega (arith, some, l) in sym (ap (take (e - (q - 1))) front ∙ ap (λ m. take m (byte ∷ drop q text)) n)

  pub same_word : (e : ℕ) → take (e - (q - 1 + 1)) (drop (q - 1 + 1) text) ≡ take (e - q) (drop q text)
  same_word e = let n : q - 1 + 1 ≡ q = omega (arith, some) in ap (λ m. take (e - m) (drop m text)) n

opened_word : (here : Source) (around : List Source) → (opened_into here around).word ≡ []
opened_word here [] = refl
opened_word here (n ∷ around) = refl

pub break_word : (b : ℕ) (here : Source) (around : List Source) → (before_break b here around).word ≡ []
break_word b here around = elim (b == 40) as (λ z. (cond z (opened_into here around) (cond (b == 41) (record { word = []; here = no_more; around = here ∷ around }) (record { word = []; here = here; around = around }))).word ≡ []) [
  | true ↦ opened_word here around
  | false ↦ elim (b == 41) as (λ z. (let x : Reading = cond z (record { word = []; here = no_more; around = here ∷ around }) (record { word = []; here = here; around = around }) in x.word) ≡ []) [ true ↦ refl | false ↦ refl ]
]

pub none_taken : (n : ℕ) (xs : List ℕ) → take (n - n) xs ≡ []
none_taken n xs = let z : n - n ≡ 0 = omega arith in ap (λ m. take m xs) z
