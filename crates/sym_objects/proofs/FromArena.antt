-- Constant symbolic objects on their way.
use Rattle.std.proofs.Common.{◌≡◌, ◌≢◌, ◌∙◌, refl, sym, ap, subst, ℕ, ◌<◌, ◌≤◌, Bool, true, false, ◌&&◌, List, Option, Some, Result, Ok, Err, IfOk, arith}
use Rattle.bfr_store.specs.declared.edge.Full.{Full}
use Rattle.bfr_store.specs.declared.meaning.Meaning.{Ghosts}
use Rattle.gl_logic.specs.Lists.{size_of}
use Rattle.gl_logic.specs.Object.{Object, Int, Character, Symbol, Text, Cons, car, cdr, boolean_object}
use Rattle.hons_arena.specs.Ids.{IsLive as IsIdLive, IsIdOf, kind_of as object_kind, object_at}
use Rattle.hons_arena.specs.declared.id.Id.{Id}
use Rattle.hons_arena.specs.declared.id.Kind.{Kind}
use Rattle.hons_arena.specs.declared.id.Kind.TheVariants as kind
use Rattle.sym_objects.specs.declared.sob.Sob.{Sob}
use Rattle.sym_objects.specs.Constants.{AreConsParts, IsConstantOf, object_of_kind, size_at}
use Rattle.sym_objects.specs.Keeps.{Keeps}
use Rattle.sym_objects.specs.Makes.{Makes}
use Rattle.sym_objects.specs.Seen.{SobsSeen, is_constant, stands_for}
use Rattle.sym_objects.specs.Walks.{IsNext}

atom_is : (x : Object) (k : Kind) → object_kind x ≡ k → k ≢ kind.Cons → object_of_kind k ≡ x
atom_is (Int z) k e h = ap object_of_kind (sym e)
atom_is (Character n) k e h = ap object_of_kind (sym e)
atom_is (Symbol n) k e h = ap object_of_kind (sym e)
atom_is (Text n) k e h = ap object_of_kind (sym e)
atom_is (Cons a d) k e h = absurd (h (sym e))

cons_is : (x : Object) → object_kind x ≡ kind.Cons → x ≡ Cons (car x) (cdr x)
cons_is (Int z) e = absurd cc
cons_is (Character n) e = absurd cc
cons_is (Symbol n) e = absurd cc
cons_is (Text n) e = absurd cc
cons_is (Cons a d) e = refl

pub cons_parts : (objects : List Object) (a b c : Id) → IsIdLive objects c → object_kind (object_at objects c) ≡ kind.Cons → IsIdOf objects (car (object_at objects c)) a → IsIdOf objects (cdr (object_at objects c)) b → AreConsParts objects a b c
cons_parts objects a b c l e p q = record {
  first = p.0;
  second = q.0;
  whole = l;
  is = cons_is (object_at objects c) e ∙ (let u = sym p.1 in let v = sym q.1 in λ i. Cons (u i) (v i));
}

pub first_smaller : (objects : List Object) (a b c : Id) → AreConsParts objects a b c → size_at objects a < size_at objects c
first_smaller objects a b c p = omega (arith, ap size_of p.is)

pub second_smaller : (objects : List Object) (a b c : Id) → AreConsParts objects a b c → size_at objects b < size_at objects c
second_smaller objects a b c p = omega (arith, ap size_of p.is)

pub symbol_boolean : (n : ℕ) (b : Bool) → n ≤ 1 → (b ≡ true → n ≡ 1) → (b ≡ false → n ≢ 1) → boolean_object b ≡ Symbol n
symbol_boolean n true l t f = ap Symbol (sym (t refl))
symbol_boolean n false l t f = let other : n ≢ 1 = f refl in let none : 0 ≡ n = omega (arith, l, other) in ap Symbol none

module _ {B : Type 0} (g : Ghosts B) where
  -- the same object in other words
  pub makes_as : (old new : SobsSeen B) (result : Result Sob Full) (f h : (ℕ → Bool) → Object) → ((a : ℕ → Bool) → f a ≡ h a) → Makes g old new result f → Makes g old new result h
  makes_as old new (Ok r) f h e m = record { keeps = m.keeps; live = m.live; means = λ a. m.means a ∙ e a }
  makes_as old new (Err x) f h e m = record { keeps = m.keeps; live = tt; means = tt }

  pub constant_as : (new : SobsSeen B) (result : Result Sob Full) (b : Bool) → b ≡ true → IfOk result (λ r. is_constant g new r ≡ b) → IfOk result (λ r. is_constant g new r ≡ true)
  constant_as new (Ok r) b e h = h ∙ e
  constant_as new (Err x) b e h = tt

  module _ (objects : List Object) where
    pub constant_kept : (old new : SobsSeen B) → Keeps g old new → (id : Id) (x : Sob) → IsConstantOf g old objects id x → IsConstantOf g new objects id x
    constant_kept old new k id x c = record {
      live = k.stays x c.live;
      held = c.held;
      constant = k.constants x c.live ∙ c.constant;
      means = λ a. k.same x a c.live ∙ c.means a;
    }

    pub constant_made : (old new : SobsSeen B) (id : Id) (k : Kind) (x : Sob) → IsIdLive objects id → object_kind (object_at objects id) ≡ k → k ≢ kind.Cons → Makes {E = Full} g old new (Ok x) (λ a. object_of_kind k) → is_constant g new x ≡ true → IsConstantOf g new objects id x
    constant_made old new id k x l e h m c = record {
      live = m.live;
      held = l;
      constant = c;
      means = λ a. m.means a ∙ atom_is (object_at objects id) k e h;
    }

    -- the second part comes, beside the first
    pub constant_next : (old new : SobsSeen B) (a b c k : Id) (o : Option Sob) (x y z : Sob) → AreConsParts objects a b c → IsNext (IsConstantOf g old objects) a b o k → o ≡ Some x → IsConstantOf g old objects k y
        → Makes {E = Full} g old new (Ok z) (λ v. Cons (stands_for g old x v) (stands_for g old y v)) → is_constant g new z ≡ (is_constant g old x && is_constant g old y) → IsConstantOf g new objects c z
    constant_next old new a b c k o x y z p h is r m e =
        let next : IsConstantOf g old objects a x × (k ≡ b) = subst (λ (q : Option Sob). IsNext (IsConstantOf g old objects) a b q k) is h in
        let rest : IsConstantOf g old objects b y = subst (λ (q : Id). IsConstantOf g old objects q y) next.1 r in
        record {
          live = m.live;
          held = p.whole;
          constant = e ∙ (let u = next.0.constant in let v = rest.constant in λ i. u i && v i);
          means = λ v. m.means v ∙ ((let u = next.0.means v in let w = rest.means v in λ i. Cons (u i) (w i)) ∙ sym p.is);
        }
