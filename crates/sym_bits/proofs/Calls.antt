-- Results on their way.
use Rattle.std.proofs.Common.{◌≡◌, ℕ, ◌+◌, ◌<◌, ◌≤◌, Bool, List, [], ◌∷◌, ◌++◌, length, map, take, Ok, Err, Result, ℤ, ◌+ℤ◌, refl, sym, ◌∙◌, ap, arith}
use Rattle.std.specs.List.{All}
use Rattle.std.proofs.lemmas.List.Elements.{All-head, All-tail, All-weaker, All-nil, All-push, All-take}
use Rattle.std.proofs.lemmas.List.{length-map}
use Rattle.bfr_store.specs.declared.edge.Edge.{Edge}
use Rattle.bfr_store.specs.declared.edge.Full.{Full}
use Rattle.bfr_store.specs.declared.meaning.Meaning.{Ghosts}
use Rattle.bfr_store.specs.Keeps.{Keeps, Makes}
use Rattle.bfr_store.proofs.Keeping.{keeps_none, keeps_then}
use Rattle.gl_logic.specs.TwosComplement.{digit, integer_of, bit_of}
use Rattle.sym_bits.specs.Columns.{onto, shifted, sign_value}
use Rattle.sym_bits.specs.Integers.{AllLive, bits_under, integer_under}
use Rattle.sym_bits.specs.Calls.{MakesInteger, Stands}
use Rattle.sym_bits.proofs.Columns.{onto_push, shifted_next}

map_same : {E : Type 0} (Live : E → Type 0) (f h : E → Bool) → ((e : E) → Live e → f e ≡ h e) → (es : List E) → All Live es → map f es ≡ map h es
map_same Live f h same [] l = refl
map_same Live f h same (e ∷ es) l = λ i. same e (All-head Live e es l) i ∷ map_same Live f h same es (All-tail Live e es l) i

module _ {B : Type 0} (g : Ghosts B) where
  pub live_kept : (old new : B) → Keeps g old new → (es : List Edge) → AllLive g old es → AllLive g new es
  live_kept old new k es l = All-weaker (g.live old) (g.live new) k.stays es l

  pub bits_kept : (old new : B) → Keeps g old new → (es : List Edge) (a : ℕ → Bool) → AllLive g old es → bits_under g new es a ≡ bits_under g old es a
  bits_kept old new k es a l = map_same (g.live old) (λ e. g.truth_of new e a) (λ e. g.truth_of old e a) (λ e h. k.same e a h) es l

  pub stands_none : (s : B) (rest whole : (ℕ → Bool) → ℤ) → ((a : ℕ → Bool) → rest a ≡ whole a) → Stands g s s [] rest whole
  stands_none s rest whole e = record { keeps = keeps_none g s; live = All-nil (g.live s); value = e }

  pub stands_kept : (start old new : B) (ds : List Edge) (rest other whole : (ℕ → Bool) → ℤ) → Stands g start old ds rest whole → Keeps g old new → ((a : ℕ → Bool) → other a ≡ rest a) → Stands g start new ds other whole
  stands_kept start old new ds rest other whole s k e = record {
    keeps = keeps_then g start old new s.keeps k;
    live = live_kept old new k ds s.live;
    value = λ a. (λ i. onto (bits_kept old new k ds a s.live i) (e a i)) ∙ s.value a;
  }

  -- a bit of what was handed in
  pub bit_kept : (start now : B) → Keeps g start now → (es : List Edge) (k : ℕ) (a : ℕ → Bool) (b : Bool) → AllLive g start es → b ≡ bit_of (bits_under g now es a) k → b ≡ bit_of (bits_under g start es a) k
  bit_kept start now s es k a b l e = e ∙ ap (λ bs. bit_of bs k) (bits_kept start now s es a l)

  -- one more bit
  pub stands_push : (start old new : B) (ds es : List Edge) (d : Edge) (rest other whole : (ℕ → Bool) → ℤ) → Stands g start old ds rest whole → es ≡ ds ++ d ∷ [] → Keeps g old new → g.live new d
      → ((a : ℕ → Bool) → digit (g.truth_of new d a) +ℤ (other a +ℤ other a) ≡ rest a) → Stands g start new es other whole
  stands_push start old new ds es d rest other whole s is k l e =
      let t = stands_kept start old new ds rest rest whole s k (λ a. refl) in
      record {
        keeps = t.keeps;
        live = rw is (All-push (g.live new) ds d t.live l);
        value = λ a. ap (λ xs. onto (bits_under g new xs a) (other a)) is ∙ (onto_push (λ x. g.truth_of new x a) ds d (other a) ∙ (ap (onto (bits_under g new ds a)) (e a) ∙ t.value a));
      }

  -- the sign ends it
  pub stands_end : (start now : B) (ds : List Edge) (sign : Edge) (r : List Edge) (rest whole integer : (ℕ → Bool) → ℤ) → Stands g start now ds rest whole → g.live now sign
      → ((a : ℕ → Bool) → sign_value (g.truth_of now sign a) ≡ rest a) → ((a : ℕ → Bool) → whole a ≡ integer a)
      → ((truth : Edge → Bool) → integer_of (map truth r) ≡ onto (map truth ds) (sign_value (truth sign))) → ((n : ℕ) × (r ≡ take n ds ++ sign ∷ [])) → MakesInteger g start now (Ok r) integer
  stands_end start now ds sign r rest whole integer s l e w v p = record {
    keeps = s.keeps;
    live = rw p.1 (All-push (g.live now) (take p.0 ds) sign (All-take (g.live now) p.0 ds s.live) l);
    value = λ a. v (λ x. g.truth_of now x a) ∙ (ap (onto (bits_under g now ds a)) (e a) ∙ (s.value a ∙ w a));
    full = tt;
  }

  pub bits_length : (s : B) (es : List Edge) (a : ℕ → Bool) → length (bits_under g s es a) ≡ length es
  bits_length s es a = length-map es (λ e. g.truth_of s e a)

  pub integer_kept : (old new : B) → Keeps g old new → (es : List Edge) (a : ℕ → Bool) → AllLive g old es → integer_under g new es a ≡ integer_under g old es a
  integer_kept old new k es a l = ap integer_of (bits_kept old new k es a l)

  -- calls before one that makes a function
  pub makes_then : (start old new : B) (r : Result Edge Full) (f h : (ℕ → Bool) → Bool) → Keeps g start old → Makes g old new r f → ((a : ℕ → Bool) → f a ≡ h a) → Makes g start new r h
  makes_then start old new (Ok e) f h k m s = record { keeps = keeps_then g start old new k m.keeps; live = m.live; truth = λ a. m.truth a ∙ s a; full = tt }
  makes_then start old new (Err e) f h k m s = record { keeps = keeps_then g start old new k m.keeps; live = tt; truth = tt; full = m.full }

  -- calls before one that makes an integer
  pub integer_then : (start old new : B) (r : Result (List Edge) Full) (f h : (ℕ → Bool) → ℤ) → Keeps g start old → MakesInteger g old new r f → ((a : ℕ → Bool) → f a ≡ h a) → MakesInteger g start new r h
  integer_then start old new (Ok e) f h k m s = record { keeps = keeps_then g start old new k m.keeps; live = m.live; value = λ a. m.value a ∙ s a; full = tt }
  integer_then start old new (Err e) f h k m s = record { keeps = keeps_then g start old new k m.keeps; live = tt; value = tt; full = m.full }

  -- one more bit below the rest of an integer
  pub append_more : (s : B) (ds es : List Edge) (d : Edge) (a : ℕ → Bool) (xs : List Bool) (k : ℕ) (z : ℤ) → es ≡ ds ++ d ∷ [] → g.truth_of s d a ≡ bit_of xs k
      → onto (bits_under g s ds a) (shifted xs k) ≡ z → onto (bits_under g s es a) (shifted xs (k + 1)) ≡ z
  append_more s ds es d a xs k z is e h =
      ap (λ ys. onto (bits_under g s ys a) (shifted xs (k + 1))) is
      ∙ (onto_push (λ x. g.truth_of s x a) ds d (shifted xs (k + 1))
      ∙ (ap (onto (bits_under g s ds a)) (ap (λ b. digit b +ℤ (shifted xs (k + 1) +ℤ shifted xs (k + 1))) e ∙ sym (shifted_next xs k)) ∙ h))
