-- Answers of the table as answers of a primitive.
use Rattle.std.proofs.Common.{◌≡◌, ℕ, Bool, true, false, not, ℤ, pos, List, [], ◌∷◌, length, Result, Ok, Err, OnErr, IsErrOf, refl, sym, ◌∙◌, ap, inl, subst}
use Rattle.bfr_store.specs.declared.edge.Edge.{Edge}
use Rattle.bfr_store.specs.declared.edge.Full.{Full}
use Rattle.bfr_store.specs.declared.meaning.Meaning.{Ghosts}
use Rattle.gl_logic.specs.Object.{Object}
use Rattle.gl_logic.specs.Bytes.{is_signed_byte}
use Rattle.gl_logic.specs.PrimValue.{prim_of, integer_in}
use Rattle.gl_logic.specs.declared.prim.Primitive.{Primitive}
use Rattle.sym_bits.proofs.Floors.{signed_fits}
use Rattle.sym_prims.specs.Results.{integer_result}
use Rattle.sym_prims.proofs.Seeing.{operation_is}
use Rattle.int_prims.specs.Integers.{IsTooWide, is_operation}
use Rattle.sym_objects.specs.declared.fault.SobFault.{SobFault}
use Rattle.sym_objects.specs.declared.fault.SobFault.TheVariants as sob
use Rattle.sym_objects.specs.declared.sob.Sob.{Sob}
use Rattle.sym_objects.specs.Seen.{SobsSeen, IsLive, IsWhole, IsFull, stands_for}
use Rattle.sym_objects.specs.Makes.{Makes}
use Rattle.std.proofs.lemmas.List.Elements.{All-head, All-tail}
use Rattle.bfr_store.specs.Keeps.{Grows as StoreGrows}
use Rattle.gl_logic.specs.Object.{Int}
use Rattle.gl_logic.specs.TwosComplement.{integer_of}
use Rattle.sym_bits.specs.Integers.{AllLive, bits_under, integer_under}
use Rattle.sym_bits.specs.declared.shifted.Shifted.{Shifted}
use Rattle.sym_prims.specs.Applying.{Applies, Gives, HasCause, Leaves, Operates, Tells}
use Rattle.sym_prims.specs.Faults.{fault_of, lifted, lifted_sob}
use Rattle.sym_prims.specs.declared.fault.SymFault.{SymFault}
use Rattle.sym_prims.specs.declared.fault.SymFault.TheVariants as fault
use Rattle.sym_prims.proofs.Leaving.{leaves_none, leaves_of, leaves_then, cause_wider}

module _ {B : Type 0} (g : Ghosts B) where
  pub gives_lifted : (old new : SobsSeen B) (r : Result Sob Full) (object : (ℕ → Bool) → Object) → Makes g old new r object → OnErr r (IsFull g new) → Gives g old new (lifted r) object
  gives_lifted old new (Ok x) object m f = record { leaves = leaves_of g old new m.keeps; live = m.live; means = m.means; cause = tt }
  gives_lifted old new (Err e) object m f = record { leaves = leaves_of g old new m.keeps; live = tt; means = tt; cause = λ c. f }

  pub full_of : (s : SobsSeen B) {A : Type 0} (r : Result A Full) → OnErr r (length s.nodes ≡ s.limit) → OnErr r (IsFull g s)
  full_of s (Ok x) h = tt
  full_of s (Err e) h = inl h

  pub gives_lifted_sob : (old new : SobsSeen B) (r : Result Sob SobFault) (object : (ℕ → Bool) → Object) → Makes g old new r object → (IsErrOf r sob.Full → IsFull g new) → Gives g old new (lifted_sob r) object
  gives_lifted_sob old new (Ok x) object m f = record { leaves = leaves_of g old new m.keeps; live = m.live; means = m.means; cause = tt }
  gives_lifted_sob old new (Err sob.Full) object m f = record { leaves = leaves_of g old new m.keeps; live = tt; means = tt; cause = λ c. f refl }
  gives_lifted_sob old new (Err sob.Memory) object m f = record { leaves = leaves_of g old new m.keeps; live = tt; means = tt; cause = λ c. tt }

  pub gives_full : (old new : SobsSeen B) (object : (ℕ → Bool) → Object) → Leaves g old new → IsFull g new → Gives g old new (Err fault.Full) object
  gives_full old new object l f = record { leaves = l; live = tt; means = tt; cause = λ c. f }

  pub gives_fault : (old new : SobsSeen B) (object : (ℕ → Bool) → Object) (e : SymFault) → Leaves g old new → ((c : Edge) → HasCause g new c (λ a. ⊥) e) → Gives g old new (Err e) object
  gives_fault old new object e l f = record { leaves = l; live = tt; means = tt; cause = f }

  pub gives_same : (s : SobsSeen B) (x : Sob) (object : (ℕ → Bool) → Object) → IsWhole g s → IsLive s x → ((a : ℕ → Bool) → stands_for g s x a ≡ object a) → Gives g s s (Ok x) object
  gives_same s x object w l m = record { leaves = leaves_none g s w; live = l; means = m; cause = tt }

  -- calls before it
  pub gives_then : (start old new : SobsSeen B) (r : Result Sob SymFault) (o p : (ℕ → Bool) → Object) → Leaves g start old → Gives g old new r o → ((a : ℕ → Bool) → o a ≡ p a) → Gives g start new r p
  gives_then start old new (Ok x) o p l m s = record { leaves = leaves_then g start old new l m.leaves; live = m.live; means = λ a. m.means a ∙ s a; cause = tt }
  gives_then start old new (Err e) o p l m s = record { leaves = leaves_then g start old new l m.leaves; live = tt; means = tt; cause = m.cause }

  -- under a path
  pub applies_of : (old new : SobsSeen B) (r : Result Sob SymFault) (path : Edge) (o p : (ℕ → Bool) → Object) → Gives g old new r o → ((a : ℕ → Bool) → g.truth_of old.store path a ≡ true → o a ≡ p a) → Applies g old new r path p
  applies_of old new (Ok x) path o p m s = record { leaves = m.leaves; live = m.live; value = λ a h. m.means a ∙ s a h; cause = tt }
  applies_of old new (Err e) path o p m s = record {
    leaves = m.leaves;
    live = tt;
    value = tt;
    cause = cause_wider g new path path (λ a. ⊥) (λ a. IsTooWide (p a)) e (λ a t. t) (λ a t v. absurd v) (m.cause path);
  }

  pub applies_then : (start old new : SobsSeen B) (r : Result Sob SymFault) (path : Edge) (o p : (ℕ → Bool) → Object) → Leaves g start old → g.live start.store path → Applies g old new r path o → ((a : ℕ → Bool) → g.truth_of start.store path a ≡ true → o a ≡ p a) → Applies g start new r path p
  applies_then start old new (Ok x) path o p l lp m s = record {
    leaves = leaves_then g start old new l m.leaves;
    live = m.live;
    value = λ a h. m.value a (l.grows.store.same path a lp ∙ h) ∙ s a h;
    cause = tt;
  }
  applies_then start old new (Err e) path o p l lp m s =
      let on : (a : ℕ → Bool) → g.truth_of new.store path a ≡ true → g.truth_of start.store path a ≡ true =
      λ a t. sym (l.grows.store.same path a lp) ∙ (sym (m.leaves.grows.store.same path a (l.grows.store.stays path lp)) ∙ t) in
      record {
        leaves = leaves_then g start old new l m.leaves;
        live = tt;
        value = tt;
        cause = cause_wider g new path path (λ a. IsTooWide (o a)) (λ a. IsTooWide (p a)) e (λ a t. t) (λ a t v. subst IsTooWide (s a (on a t)) v) m.cause;
      }

  pub applies_full : (old new : SobsSeen B) (path : Edge) (object : (ℕ → Bool) → Object) → Leaves g old new → IsFull g new → Applies g old new (Err fault.Full) path object
  applies_full old new path object l f = record { leaves = l; live = tt; value = tt; cause = f }

  -- ---- operations
  pub bits_grown : (old new : B) → StoreGrows g old new → (es : List Edge) (a : ℕ → Bool) → AllLive g old es → bits_under g new es a ≡ bits_under g old es a
  bits_grown old new k [] a l = refl
  bits_grown old new k (e ∷ es) a l = λ i. k.same e a (All-head (g.live old) e es l) i ∷ bits_grown old new k es a (All-tail (g.live old) e es l) i

  pub operation_applies : (old mid after last : SobsSeen B) (made : Shifted) (r : Result Sob Full) (path : Edge) (f : (ℕ → Bool) → ℤ) (object : (ℕ → Bool) → Object) → g.live old.store path
      → Leaves g old mid → Operates g old mid (Ok made) f → Leaves g mid after → ((a : ℕ → Bool) → g.truth_of mid.store path a ≡ true → g.truth_of mid.store made.over a ≡ false)
      → Makes g after last r (λ a. Int (integer_under g after.store made.bits a)) → OnErr r (IsFull g last) → ((a : ℕ → Bool) → object a ≡ Int (f a)) → Applies g old last (lifted r) path object
  operation_applies old mid after last made r path f object lp k o l never m h s =
      applies_then old after last (lifted r) path (λ a. Int (integer_under g after.store made.bits a)) object (leaves_then g old mid after k l) lp
      (applies_of after last (lifted r) path (λ a. Int (integer_under g after.store made.bits a)) (λ a. Int (integer_under g after.store made.bits a)) (gives_lifted after last r (λ a. Int (integer_under g after.store made.bits a)) m h) (λ a t. refl))
      (λ a t.
      let way = k.grows.store.same path a lp ∙ t in
      sym (s a ∙ ap Int (sym (ap integer_of (bits_grown mid.store after.store l.grows.store made.bits a o.bits) ∙ o.value a (never a way)))))

  -- where it leaves 128 bits
  too_wide : (i : ℤ) → not (is_signed_byte (pos 128) i) ≡ true → IsTooWide (Int i)
  too_wide i h fits = clash (is_signed_byte (pos 128) i) h ((signed_fits (is_signed_byte (pos 128) i) i refl).1 fits) where
    clash : (b : Bool) → not b ≡ true → b ≡ true → ⊥
    clash true e f = off e where
      off : false ≡ true → ⊥
      off q = cc
    clash false e f = off f where
      off : false ≡ true → ⊥
      off q = cc

  pub operation_wide : (old mid after : SobsSeen B) (made : Shifted) (e : SymFault) (path : Edge) (f : (ℕ → Bool) → ℤ) (object : (ℕ → Bool) → Object)
      → Leaves g old mid → Operates g old mid (Ok made) f → Leaves g mid after → HasCause g after path (λ a. g.truth_of mid.store made.over a ≡ true) e → ((a : ℕ → Bool) → object a ≡ Int (f a)) → Applies g old after (Err e) path object
  operation_wide old mid after made e path f object k o l h s = record {
    leaves = leaves_then g old mid after k l;
    live = tt;
    value = tt;
    cause = cause_wider g after path path (λ a. g.truth_of mid.store made.over a ≡ true) (λ a. IsTooWide (object a)) e (λ a t. t)
        (λ a t v. subst IsTooWide (sym (s a)) (too_wide (f a) (sym (o.exceeds a) ∙ v))) h;
  }

  -- ---- an operation on two integers, by the tables on the way, which are the same
  module _ (p : Primitive) (x y : Sob) (old between mid : SobsSeen B) (bs cs : List Edge) (is : is_operation p ≡ true) (e : between ≡ old) (d : mid ≡ between)
      (v : (a : ℕ → Bool) → integer_under g old.store bs a ≡ integer_in (stands_for g old x a)) (u : (a : ℕ → Bool) → integer_under g between.store cs a ≡ integer_in (stands_for g between y a)) where
    number : (ℕ → Bool) → ℤ
    number a = integer_result p (integer_under g old.store bs a) (integer_under g old.store cs a)

    object_is : (a : ℕ → Bool) → prim_of p (stands_for g old x a) (stands_for g old y a) ≡ Int (number a)
    unfolding number
    object_is a =
        let u' : (c : ℕ → Bool) → integer_under g old.store cs c ≡ integer_in (stands_for g old y c) = subst (λ (t : SobsSeen B). (c : ℕ → Bool) → integer_under g t.store cs c ≡ integer_in (stands_for g t y c)) e u in
        operation_is p (stands_for g old x a) (stands_for g old y a) is ∙ (λ i. Int (integer_result p (sym (v a) i) (sym (u' a) i)))

    operates_old : (next : SobsSeen B) (made : Shifted) → Operates g mid next (Ok made) (λ a. integer_result p (integer_under g mid.store bs a) (integer_under g mid.store cs a)) → Operates g old next (Ok made) number
    unfolding number
    operates_old next made o = subst (λ (t : SobsSeen B). Operates g t next (Ok made) (λ a. integer_result p (integer_under g t.store bs a) (integer_under g t.store cs a))) (d ∙ e) o

    pub compute_ok : (next after last : SobsSeen B) (made : Shifted) (r : Result Sob Full) (path : Edge) → g.live old.store path
        → Operates g mid next (Ok made) (λ a. integer_result p (integer_under g mid.store bs a) (integer_under g mid.store cs a)) → Leaves g next after
        → ((a : ℕ → Bool) → g.truth_of next.store path a ≡ true → g.truth_of next.store made.over a ≡ false)
        → Makes g after last r (λ a. Int (integer_under g after.store made.bits a)) → OnErr r (length last.nodes ≡ last.limit)
        → Applies g old last (lifted r) path (λ a. prim_of p (stands_for g old x a) (stands_for g old y a))
    compute_ok next after last made r path lp o l never m h =
        let q = operates_old next made o in
        operation_applies old next after last made r path number (λ a. prim_of p (stands_for g old x a) (stands_for g old y a)) lp (leaves_of g old next q.keeps) q l never m (full_of last r h) object_is

    pub compute_wide : (next after : SobsSeen B) (made : Shifted) (f : SymFault) (path : Edge)
        → Operates g mid next (Ok made) (λ a. integer_result p (integer_under g mid.store bs a) (integer_under g mid.store cs a)) → Leaves g next after
        → HasCause g after path (λ a. g.truth_of next.store made.over a ≡ true) f
        → Applies g old after (Err f) path (λ a. prim_of p (stands_for g old x a) (stands_for g old y a))
    compute_wide next after made f path o l h =
        let q = operates_old next made o in
        operation_wide old next after made f path number (λ a. prim_of p (stands_for g old x a) (stands_for g old y a)) (leaves_of g old next q.keeps) q l h object_is
