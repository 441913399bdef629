-- Characters by their bits.
use Rattle.std.proofs.Common.{◌≡◌, ℕ, suc, ◌+◌, ◌^◌, Bool, true, false, not, cond, List, Result, Ok, Err, pos, refl, sym, ◌∙◌, ap, subst, arith}
use Rattle.std.proofs.lemmas.List.Elements.{All-weaker}
use Rattle.std.specs.Ordering.{int_eq}
use Rattle.bfr_store.specs.declared.edge.Edge.{Edge}
use Rattle.bfr_store.specs.declared.meaning.Meaning.{Ghosts}
use Rattle.gl_logic.specs.Object.{Object, Int, Character}
use Rattle.gl_logic.specs.PrimValue.{character_of, integer_in, natural_in}
use Rattle.gl_logic.specs.TwosComplement.{bit_of, integer_of}
use Rattle.sym_bits.specs.Columns.{low_number, shifted}
use Rattle.sym_bits.specs.Integers.{AllLive, bits_under, integer_under}
use Rattle.sym_objects.specs.declared.sob.Sob.{Sob}
use Rattle.sym_objects.specs.Seen.{SobsSeen, IsLive, IsWhole, stands_for}
use Rattle.sym_prims.specs.Applying.{Gives, Leaves, Tells}
use Rattle.sym_prims.specs.declared.fault.SymFault.{SymFault}
use Rattle.sym_prims.proofs.Codes.{character_by_bits}
use Rattle.sym_prims.proofs.Giving.{bits_grown, gives_then}
use Rattle.sym_prims.proofs.Leaving.{leaves_none, leaves_of, leaves_then}
use Rattle.sym_prims.proofs.Pairing.{natural_by_integer}

by_bit : (base s w : ℕ) (b : Bool) → cond b (Character ((base + s) + w)) (Character (base + w)) ≡ Character (base + (w + cond b s 0))
by_bit base s w true = ap Character (omega arith)
by_bit base s w false = ap Character (omega arith)

pub one_bit : (bs : List Bool) (n level base s : ℕ) (b : Bool) → level ≡ suc n → s ≡ 2 ^ n → b ≡ bit_of bs n → cond b (Character ((base + s) + low_number n bs)) (Character (base + low_number n bs)) ≡ Character (base + low_number level bs)
one_bit bs n level base s b el es eb =
    by_bit base s (low_number n bs) b
    ∙ ((λ i. Character (base + (low_number n bs + cond (eb i) (es i) 0))) ∙ ap (λ k. Character (base + low_number k bs)) (sym el))

module _ {B : Type 0} (g : Ghosts B) where
  pub gives_one : (old mid new : SobsSeen B) (bits : List Edge) (n level base low : ℕ) (r : Result Sob SymFault) → mid ≡ old → IsWhole g old
      → Gives g mid new r (λ a. Character (low + low_number n (bits_under g mid.store bits a)))
      → ((a : ℕ → Bool) → Character (low + low_number n (bits_under g old.store bits a)) ≡ Character (base + low_number level (bits_under g old.store bits a)))
      → Gives g old new r (λ a. Character (base + low_number level (bits_under g old.store bits a)))
  gives_one old mid new bits n level base low r e w m s =
      let made : Gives g old new r (λ a. Character (low + low_number n (bits_under g old.store bits a))) = subst (λ (t : SobsSeen B). Gives g t new r (λ a. Character (low + low_number n (bits_under g t.store bits a)))) e m in
      gives_then g old old new r (λ a. Character (low + low_number n (bits_under g old.store bits a))) (λ a. Character (base + low_number level (bits_under g old.store bits a))) (leaves_none g old w) made s

  pub gives_both : (old mid between after new : SobsSeen B) (bits : List Edge) (test : Edge) (high low : Sob) (r : Result Sob SymFault) (n level base s : ℕ) → mid ≡ old → AllLive g old.store bits → g.live old.store test
      → ((a : ℕ → Bool) → g.truth_of old.store test a ≡ bit_of (bits_under g old.store bits a) n) → level ≡ suc n → s ≡ 2 ^ n
      → Gives g mid between (Ok high) (λ a. Character ((base + s) + low_number n (bits_under g mid.store bits a)))
      → Gives g between after (Ok low) (λ a. Character (base + low_number n (bits_under g between.store bits a)))
      → Gives g after new r (λ a. cond (g.truth_of after.store test a) (stands_for g after high a) (stands_for g after low a))
      → Gives g old new r (λ a. Character (base + low_number level (bits_under g old.store bits a)))
  gives_both old mid between after new bits test high low r n level base s e l lt t el es h k m =
      let first : Gives g old between (Ok high) (λ a. Character ((base + s) + low_number n (bits_under g old.store bits a))) =
      subst (λ (q : SobsSeen B). Gives g q between (Ok high) (λ a. Character ((base + s) + low_number n (bits_under g q.store bits a)))) e h in
      let kept : Leaves g old after = leaves_then g old between after first.leaves k.leaves in
      gives_then g old after new r (λ a. cond (g.truth_of after.store test a) (stands_for g after high a) (stands_for g after low a)) (λ a. Character (base + low_number level (bits_under g old.store bits a))) kept m
      (λ a. (λ i. cond (kept.grows.store.same test a lt i) ((k.leaves.grows.same high a first.live ∙ first.means a) i)
      ((k.means a ∙ ap (λ bs. Character (base + low_number n bs)) (bits_grown g old.store between.store first.leaves.grows.store bits a l)) i))
      ∙ one_bit (bits_under g old.store bits a) n level base s (g.truth_of old.store test a) el es (t a))

  -- the character of an integer
  pub gives_code : (old first second third fourth new : SobsSeen B) (x : Sob) (bits : List Edge) (beyond : Edge) (near far : Sob) (r : Result Sob SymFault) → first ≡ old → IsWhole g old → AllLive g old.store bits
      → ((a : ℕ → Bool) → integer_under g old.store bits a ≡ integer_in (stands_for g old x a))
      → Tells g first second (Ok beyond) (λ a. not (int_eq (shifted (bits_under g first.store bits a) 8) (pos 0)))
      → Gives g second third (Ok near) (λ a. Character (0 + low_number 8 (bits_under g second.store bits a)))
      → Gives g third fourth (Ok far) (λ a. Character 0)
      → Gives g fourth new r (λ a. cond (g.truth_of fourth.store beyond a) (stands_for g fourth far a) (stands_for g fourth near a))
      → Gives g old new r (λ a. character_of (natural_in (stands_for g old x a)))
  gives_code old first second third fourth new x bits beyond near far r e w l v t h k m =
      let told : Tells g old second (Ok beyond) (λ a. not (int_eq (shifted (bits_under g old.store bits a) 8) (pos 0))) =
      subst (λ (q : SobsSeen B). Tells g q second (Ok beyond) (λ a. not (int_eq (shifted (bits_under g q.store bits a) 8) (pos 0)))) e t in
      let to_second : Leaves g old second = leaves_of g old second told.keeps in
      let later : Leaves g second fourth = leaves_then g second third fourth h.leaves k.leaves in
      gives_then g old fourth new r (λ a. cond (g.truth_of fourth.store beyond a) (stands_for g fourth far a) (stands_for g fourth near a)) (λ a. character_of (natural_in (stands_for g old x a)))
      (leaves_then g old second fourth to_second later) m
      (λ a. (λ i. cond ((later.grows.store.same beyond a told.live ∙ told.truth a) i) (k.means a i)
      ((k.leaves.grows.same near a h.live ∙ (h.means a ∙ ap (λ bs. Character (0 + low_number 8 bs)) (bits_grown g old.store second.store to_second.grows.store bits a l))) i))
      ∙ (character_by_bits (bits_under g old.store bits a)
      ∙ (ap (λ z. character_of (natural_in (Int z))) (v a) ∙ ap character_of (natural_by_integer (stands_for g old x a)))))
