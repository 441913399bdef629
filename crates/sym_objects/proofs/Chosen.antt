-- The bits of one integer or of another.
use Rattle.std.proofs.Common.{◌≡◌, ◌∙◌, refl, sym, ap, subst, ℕ, zero, suc, ◌+◌, ◌-◌, ◌<◌, ◌≤◌, Bool, true, false, cond, List, [], ◌∷◌, ◌++◌, length, map, get_or, slice_get, Some, Ok, inl, inr, arith}
use Rattle.std.specs.Prelude.{◌+ℤ◌}
use Rattle.std.specs.List.{All}
use Rattle.std.proofs.lemmas.List.{length-map, length_push, get_or_append_left, get_or_push}
use Rattle.std.proofs.lemmas.List.Elements.{All-push, All-cons, All-nil}
use Rattle.std.proofs.lemmas.Bool.{cases_lt}
use Rattle.bfr_store.specs.declared.edge.Edge.{Edge}
use Rattle.bfr_store.specs.declared.edge.Full.{Full}
use Rattle.bfr_store.specs.declared.meaning.Meaning.{Ghosts}
use Rattle.gl_logic.specs.TwosComplement.{digit, integer_of, bit_of}
use Rattle.sym_objects.specs.Keeps.{Keeps}
use Rattle.sym_objects.specs.Makes.{MakesEdge}
use Rattle.sym_objects.specs.Seen.{SobsSeen}
use Rattle.sym_objects.proofs.Keeping.{keeps_then}

pub bit_inside : (t : Edge → Bool) (es : List Edge) (k : ℕ) (e : Edge) → slice_get es k ≡ Some e → t e ≡ bit_of (map t es) k
bit_inside t [] k e h = absurd cc
bit_inside t (x ∷ []) zero e h = let is : x ≡ e = cc in ap t (sym is)
bit_inside t (x ∷ []) (suc k) e h = absurd cc
bit_inside t (x ∷ y ∷ es) zero e h = let is : x ≡ e = cc in ap t (sym is)
bit_inside t (x ∷ y ∷ es) (suc k) e h = bit_inside t (y ∷ es) k e h

last_past : (t : Edge → Bool) (es : List Edge) (j k : ℕ) (e : Edge) → j + 1 ≡ length es → slice_get es j ≡ Some e → length es ≤ k → t e ≡ bit_of (map t es) k
last_past t [] j k e n h l = absurd (omega (arith, n))
last_past t (x ∷ []) zero k e n h l = let is : x ≡ e = cc in ap t (sym is)
last_past t (x ∷ []) (suc j) k e n h l = absurd (omega (arith, n))
last_past t (x ∷ y ∷ es) zero k e n h l = absurd (omega (arith, n))
last_past t (x ∷ y ∷ es) (suc j) zero e n h l = absurd (omega (arith, l))
last_past t (x ∷ y ∷ es) (suc j) (suc k) e n h l = last_past t (y ∷ es) j k e (omega (arith, n)) h (omega (arith, l))

pub bit_past : (t : Edge → Bool) (es : List Edge) (k : ℕ) (e : Edge) → 1 ≤ length es → slice_get es (length es - 1) ≡ Some e → length es ≤ k → t e ≡ bit_of (map t es) k
bit_past t es k e s h l = last_past t es (length es - 1) k e (omega (arith, s)) h l

-- ---- padded bits
sign_twice : (b : Bool) → digit b +ℤ (integer_of (b ∷ []) +ℤ integer_of (b ∷ [])) ≡ integer_of (b ∷ [])
sign_twice true = refl
sign_twice false = refl

padded : (ls xs : List Bool) → 1 ≤ length xs → length xs ≤ length ls → ((i : ℕ) → i < length ls → get_or ls i false ≡ bit_of xs i) → integer_of ls ≡ integer_of xs
padded [] [] s l h = absurd (omega (arith, s))
padded [] (x ∷ xs) s l h = absurd (omega (arith, l))
padded (b ∷ ls) [] s l h = absurd (omega (arith, s))
padded (b ∷ []) (x ∷ []) s l h = ap (λ c. integer_of (c ∷ [])) (h 0 (omega arith))
padded (b ∷ c ∷ ls) (x ∷ []) s l h =
    let rest : integer_of (c ∷ ls) ≡ integer_of (x ∷ []) = padded (c ∷ ls) (x ∷ []) (omega arith) (omega arith) (λ i k. h (suc i) (omega (arith, k))) in
    let first : b ≡ x = h 0 (omega arith) in
    (λ i. digit (first i) +ℤ (rest i +ℤ rest i)) ∙ sign_twice x
padded (b ∷ []) (x ∷ y ∷ xs) s l h = absurd (omega (arith, l))
padded (b ∷ c ∷ ls) (x ∷ y ∷ xs) s l h =
    let rest : integer_of (c ∷ ls) ≡ integer_of (y ∷ xs) = padded (c ∷ ls) (y ∷ xs) (omega arith) (omega (arith, l)) (λ i k. h (suc i) (omega (arith, k))) in
    let first : b ≡ x = h 0 (omega arith) in
    λ i. digit (first i) +ℤ (rest i +ℤ rest i)

chosen_integer : (b : Bool) (ls xs ys : List Bool) → 1 ≤ length xs → 1 ≤ length ys → length xs ≤ length ls → length ys ≤ length ls → ((i : ℕ) → i < length ls → get_or ls i false ≡ cond b (bit_of xs i) (bit_of ys i)) → integer_of ls ≡ cond b (integer_of xs) (integer_of ys)
chosen_integer true ls xs ys sx sy lx ly h = padded ls xs sx lx h
chosen_integer false ls xs ys sx sy lx ly h = padded ls ys sy ly h

map_at : (t : Edge → Bool) (es : List Edge) (i : ℕ) (d : Edge) → i < length es → get_or (map t es) i false ≡ t (get_or es i d)
map_at t [] i d h = absurd (omega (arith, h))
map_at t (e ∷ es) zero d h = refl
map_at t (e ∷ es) (suc i) d h = map_at t es i d (omega (arith, h))

-- ---- on the way
-- the lowest bits are chosen
pub record AreChosen {B : Type 0} (g : Ghosts B) (test : Edge) (xs ys : List Edge) (start now : SobsSeen B) (bits : List Edge) : Type 0 where
  pub keeps : Keeps g start now
  pub nodes : now.nodes ≡ start.nodes
  pub edges : All (g.live now.store) bits
  pub says : (i : ℕ) (d : Edge) (v : ℕ → Bool) → i < length bits → g.truth_of now.store (get_or bits i d) v ≡ cond (g.truth_of start.store test v) (bit_of (map (λ c. g.truth_of start.store c v) xs) i) (bit_of (map (λ c. g.truth_of start.store c v) ys) i)

module _ {B : Type 0} (g : Ghosts B) (test : Edge) (xs ys : List Edge) (start : SobsSeen B) where
  pub chosen_first : (now : SobsSeen B) (x y e : Edge) (bits : List Edge) → MakesEdge {E = Full} g start now (Ok e) (λ v. cond (g.truth_of start.store test v) (g.truth_of start.store x v) (g.truth_of start.store y v)) → now.nodes ≡ start.nodes
      → ((t : Edge → Bool) → t x ≡ bit_of (map t xs) 0) → ((t : Edge → Bool) → t y ≡ bit_of (map t ys) 0) → bits ≡ e ∷ [] → AreChosen g test xs ys start now bits
  chosen_first now x y e bits m n p q is = subst (λ (es : List Edge). AreChosen g test xs ys start now es) (sym is) (record {
    keeps = m.keeps;
    nodes = n;
    edges = All-cons (g.live now.store) e [] m.live (All-nil (g.live now.store));
    says = λ i d v h. let none : i ≡ 0 = omega (arith, h) in
        ap (λ k. g.truth_of now.store (get_or (e ∷ []) k d) v) none ∙ (m.truth v
        ∙ ((let u = p (λ c. g.truth_of start.store c v) in let w = q (λ c. g.truth_of start.store c v) in λ j. cond (g.truth_of start.store test v) (u j) (w j))
        ∙ ap (λ k. cond (g.truth_of start.store test v) (bit_of (map (λ c. g.truth_of start.store c v) xs) k) (bit_of (map (λ c. g.truth_of start.store c v) ys) k)) (sym none)));
  })

  pub chosen_more : (now later : SobsSeen B) (x y e : Edge) (bits more : List Edge) (k : ℕ) → AreChosen g test xs ys start now bits → k ≡ length bits → g.live start.store test → g.live start.store x → g.live start.store y
      → MakesEdge {E = Full} g now later (Ok e) (λ v. cond (g.truth_of now.store test v) (g.truth_of now.store x v) (g.truth_of now.store y v)) → later.nodes ≡ now.nodes
      → ((t : Edge → Bool) → t x ≡ bit_of (map t xs) k) → ((t : Edge → Bool) → t y ≡ bit_of (map t ys) k) → more ≡ bits ++ e ∷ [] → AreChosen g test xs ys start later more
  chosen_more now later x y e bits more k a n lt lx ly m same p q is = subst (λ (es : List Edge). AreChosen g test xs ys start later es) (sym is) (record {
    keeps = keeps_then g start now later a.keeps m.keeps;
    nodes = same ∙ a.nodes;
    edges = All-push (g.live later.store) bits e (λ i d h. m.keeps.store.stays (get_or bits i d) (a.edges i d h)) m.live;
    says = λ i d v h. elim (cases_lt i (length bits)) [
      | inl below ↦
          ap (λ c. g.truth_of later.store c v) (get_or_append_left bits (e ∷ []) d i below)
          ∙ (m.keeps.store.same (get_or bits i d) v (a.edges i d below) ∙ a.says i d v below)
      | inr last ↦
          let at : i ≡ k = omega (arith, h, last, n, length_push bits e) in
          ap (λ c. g.truth_of later.store c v) (get_or_push bits e d i (omega (arith, at, n)))
          ∙ (m.truth v
          ∙ ((let o = a.keeps.store.same test v lt in let u = a.keeps.store.same x v lx ∙ p (λ c. g.truth_of start.store c v) in let w = a.keeps.store.same y v ly ∙ q (λ c. g.truth_of start.store c v) in λ j. cond (o j) (u j) (w j))
          ∙ ap (λ z. cond (g.truth_of start.store test v) (bit_of (map (λ c. g.truth_of start.store c v) xs) z) (bit_of (map (λ c. g.truth_of start.store c v) ys) z)) (sym at)))
    ];
  })

  pub chosen_value : (now : SobsSeen B) (bits : List Edge) → AreChosen g test xs ys start now bits → 1 ≤ length xs → 1 ≤ length ys → length xs ≤ length bits → length ys ≤ length bits → (v : ℕ → Bool)
      → integer_of (map (λ c. g.truth_of now.store c v) bits) ≡ cond (g.truth_of start.store test v) (integer_of (map (λ c. g.truth_of start.store c v) xs)) (integer_of (map (λ c. g.truth_of start.store c v) ys))
  chosen_value now bits a sx sy lx ly v =
      let t : Edge → Bool = λ c. g.truth_of start.store c v in
      let u : Edge → Bool = λ c. g.truth_of now.store c v in
      let nx : length (map t xs) ≡ length xs = length-map xs t in
      let ny : length (map t ys) ≡ length ys = length-map ys t in
      let nb : length (map u bits) ≡ length bits = length-map bits u in
      chosen_integer (g.truth_of start.store test v) (map u bits) (map t xs) (map t ys) (omega (arith, nx, sx)) (omega (arith, ny, sy)) (omega (arith, nx, nb, lx)) (omega (arith, ny, nb, ly))
      (λ i h. map_at u bits i test (omega (arith, h, nb)) ∙ a.says i test v (omega (arith, h, nb)))
