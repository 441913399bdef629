-- Constant symbolic objects on their way into an arena.
use Rattle.std.proofs.Common.{◌≡◌, ◌∙◌, refl, sym, subst, ℕ, ◌<◌, ◌⊎◌, inl, inr, Bool, true, ◌&&◌, List, [], ◌∷◌, Option, Some, None, Result, Ok, Err, IsErrOf, IsErr, arith}
use Rattle.bfr_store.specs.declared.meaning.Meaning.{Ghosts}
use Rattle.gl_logic.specs.Object.{Object, Cons}
use Rattle.hons_arena.specs.declared.id.Id.{Id}
use Rattle.hons_arena.specs.declared.id.Full.{Full}
use Rattle.hons_arena.specs.Held.{Held, IsWhole as IsArenaWhole, AddsCellsOf, LacksCell, Interns, Places as PlacesObject}
use Rattle.hons_arena.specs.Ids.{IsIdOf, object_at}
use Rattle.hons_arena.specs.Parts.{AreHeld}
use Rattle.hons_arena.proofs.CellsIn.{IsPart}
use Rattle.hons_arena.proofs.Placing.{adds_none, adds_more, adds_weaker, lacks_weaker, id_kept, too_many, has_room}
use Rattle.hons_arena.proofs.Trees.{places_cell}
use Rattle.sym_objects.specs.declared.fault.SobFault.{SobFault}
use Rattle.sym_objects.specs.declared.fault.SobFault.TheVariants as fault
use Rattle.sym_objects.specs.declared.memo.Key.{Key}
use Rattle.sym_objects.specs.declared.sob.Sob.{Sob}
use Rattle.sym_objects.specs.declared.walk.Frame.{Frame}
use Rattle.sym_objects.specs.declared.walk.Focus.{Focus}
use Rattle.sym_objects.specs.declared.walk.Focus.TheVariants as focus
use Rattle.sym_objects.specs.Arenas.{Extends, IsConsOf, IsConstantNode, IsIdOfNode}
use Rattle.sym_objects.specs.Makes.{Places}
use Rattle.sym_objects.specs.Memos.{AreRight}
use Rattle.sym_objects.specs.Seen.{SobsSeen, is_constant, stands_for}
use Rattle.sym_objects.proofs.Halves.{and_first, and_second}
use Rattle.sym_objects.specs.Truths.{number_of, sob_of}
use Rattle.sym_objects.specs.Walks.{Await, IsNext, IsSound, Turns, key_in}

pub places_none : (x : Object) (held : Held) (id : Id) → IsIdOf held.objects x id → PlacesObject held held x (Ok id)
places_none x held id h = record { id = h; objects = adds_none x held.objects; limit = refl; lacks = tt }

pub extends_none : (held : Held) (x : Object) → IsArenaWhole held → Extends held held x
extends_none held x w = record { adds = adds_none x held.objects; limit = refl; whole = w }

pub extends_by : (old new : Held) (x : Object) (r : Result Id Full) → PlacesObject old new x r → IsArenaWhole new → Extends old new x
extends_by old new x r p w = record { adds = p.objects; limit = p.limit; whole = w }

pub first_part : (x a d y : Object) → x ≡ Cons a d → IsPart y a → IsPart y x
first_part x a d y e h = let p : IsPart y (Cons a d) = inr (inl h) in subst (λ (z : Object). IsPart y z) (sym e) p

pub second_part : (x a d y : Object) → x ≡ Cons a d → IsPart y d → IsPart y x
second_part x a d y e h = let p : IsPart y (Cons a d) = inr (inr h) in subst (λ (z : Object). IsPart y z) (sym e) p

module _ {B : Type 0} (g : Ghosts B) (s : SobsSeen B) where
  -- an id stays where cells are added
  pub id_stays : (old new : Held) (w : Object) → AddsCellsOf w old.objects new.objects → (x : Sob) (id : Id) → IsIdOfNode g s old x id → IsIdOfNode g s new x id
  id_stays old new w adds x id h = record { node = h.node; is = λ a. id_kept w old.objects new.objects (stands_for g s x a) id adds (h.is a) }

  -- a cons of two placed parts
  pub cons_placed : (old new : Held) (a b c : Sob) (first second : Id) (r : Result Id Full) → IsConsOf g s a b c → IsIdOfNode g s old a first → IsIdOfNode g s old b second → Interns old new (Cons (object_at old.objects first) (object_at old.objects second)) r
      → (v : ℕ → Bool) → PlacesObject old new (stands_for g s c v) r
  cons_placed old new a b c first second r k p q i v =
      places_cell (stands_for g s c v) (Cons (object_at old.objects first) (object_at old.objects second)) old new r
      (k.is v ∙ (let x = sym (p.is v).1 in let y = sym (q.is v).1 in λ j. Cons (x j) (y j))) refl (inl refl) i

  next_of : (right : Sob → Id → Type 0) (first second : Sob) (o : Option Id) (k : Sob) → IsNext right first second o k → (k ≡ first) ⊎ (k ≡ second)
  next_of right first second None k h = inl h
  next_of right first second (Some v) k h = inr h.1

  -- what the frames wait for is a part of the root
  await_part : (held : Held) (root : Sob) (fs : List (Frame Sob Id)) (k : Sob) → Await (IsIdOfNode g s held) (IsConsOf g s) root fs k → (v : ℕ → Bool) (y : Object) → IsPart y (stands_for g s k v) → IsPart y (stands_for g s root v)
  await_part held root [] k h v y p = subst (λ (x : Sob). IsPart y (stands_for g s x v)) h p
  await_part held root (f ∷ fs) k h v y p =
      let whole : IsPart y (stands_for g s f.whole v) = elim (next_of (IsIdOfNode g s held) f.first f.second f.found k h.1) [
        | inl is ↦ first_part (stands_for g s f.whole v) (stands_for g s f.first v) (stands_for g s f.second v) y (h.0.is v) (subst (λ (x : Sob). IsPart y (stands_for g s x v)) is p)
        | inr is ↦ second_part (stands_for g s f.whole v) (stands_for g s f.first v) (stands_for g s f.second v) y (h.0.is v) (subst (λ (x : Sob). IsPart y (stands_for g s x v)) is p)
      ] in
      await_part held root fs f.whole h.2 v y whole

  -- a placing on its way
  pub record Placing (root : Sob) (start now : Held) (fs : List (Frame Sob Id)) (f : Focus Sob Id) (kept : List (Key × Id)) : Type 0 where
    pub extends : (v : ℕ → Bool) → Extends start now (stands_for g s root v)
    pub awaits : Await (IsIdOfNode g s now) (IsConsOf g s) root fs (key_in f)
    pub sound : IsSound (IsConstantNode g s) (IsIdOfNode g s now) f
    pub memo : AreRight sob_of (IsIdOfNode g s now) kept

  pub placing_start : (root : Sob) (start : Held) (kept : List (Key × Id)) → IsArenaWhole start → IsConstantNode g s root → AreRight sob_of (IsIdOfNode g s start) kept → Placing root start start [] (focus.Visit root) kept
  placing_start root start kept w c m = record { extends = λ v. extends_none start (stands_for g s root v) w; awaits = refl; sound = c; memo = m }

  -- cells of a part are cells of the root
  extends_more : (root k : Sob) (start mid new : Held) (fs : List (Frame Sob Id)) → ((v : ℕ → Bool) → Extends start mid (stands_for g s root v)) → Await (IsIdOfNode g s mid) (IsConsOf g s) root fs k → ((v : ℕ → Bool) → Extends mid new (stands_for g s k v))
      → (v : ℕ → Bool) → Extends start new (stands_for g s root v)
  extends_more root k start mid new fs e a f v = record {
    adds = adds_more (stands_for g s root v) start.objects mid.objects new.objects (e v).adds (adds_weaker (stands_for g s k v) (stands_for g s root v) mid.objects new.objects (await_part mid root fs k a v) (f v).adds);
    limit = (f v).limit ∙ (e v).limit;
    whole = (f v).whole;
  }

  module _ (root : Sob) (start mid new : Held) where
    pub placing_visit : (fs hs : List (Frame Sob Id)) (f h : Focus Sob Id) (x : Sob) (kept more : List (Key × Id)) → Placing root start mid fs f kept → f ≡ focus.Visit x → ((v : ℕ → Bool) → Extends mid new (stands_for g s x v))
        → Turns (IsIdOfNode g s mid) (IsIdOfNode g s new) (IsConsOf g s) (IsConsOf g s) (IsConstantNode g s) number_of fs hs (focus.Visit x) h → AreRight sob_of (IsIdOfNode g s new) more → Placing root start new hs h more
    placing_visit fs hs f h x kept more p e n t m =
        let a : Await (IsIdOfNode g s mid) (IsConsOf g s) root fs x = subst (λ (k : Focus Sob Id). Await (IsIdOfNode g s mid) (IsConsOf g s) root fs (key_in k)) e p.awaits in
        record { extends = extends_more root x start mid new fs p.extends a n; awaits = t.awaits root a; sound = t.sound; memo = m }

    pub placing_give : (fs gs hs : List (Frame Sob Id)) (f h : Focus Sob Id) (frame : Frame Sob Id) (x : Sob) (id : Id) (kept more : List (Key × Id)) → Placing root start mid fs f kept → f ≡ focus.Give x id → fs ≡ frame ∷ gs → ((v : ℕ → Bool) → Extends mid new (stands_for g s frame.whole v))
        → Turns (IsIdOfNode g s mid) (IsIdOfNode g s new) (IsConsOf g s) (IsConsOf g s) (IsConstantNode g s) number_of (frame ∷ gs) hs (focus.Give x id) h → AreRight sob_of (IsIdOfNode g s new) more → Placing root start new hs h more
    placing_give fs gs hs f h frame x id kept more p e l n t m =
        let a : Await (IsIdOfNode g s mid) (IsConsOf g s) root (frame ∷ gs) x = subst (λ (ks : List (Frame Sob Id)). Await (IsIdOfNode g s mid) (IsConsOf g s) root ks x) l (subst (λ (k : Focus Sob Id). Await (IsIdOfNode g s mid) (IsConsOf g s) root fs (key_in k)) e p.awaits) in
        record { extends = extends_more root frame.whole start mid new gs p.extends a.2 n; awaits = t.awaits root a; sound = t.sound; memo = m }

    -- a refusal
    refused : (k : Sob) (fs : List (Frame Sob Id)) (r : Result Id SobFault) → IsErr r → ((v : ℕ → Bool) → Extends start mid (stands_for g s root v)) → Await (IsIdOfNode g s mid) (IsConsOf g s) root fs k → ((v : ℕ → Bool) → Extends mid new (stands_for g s k v))
        → (IsErrOf r fault.Full → (v : ℕ → Bool) → LacksCell new (stands_for g s k v)) → (v : ℕ → Bool) → Places start new (stands_for g s root v) r
    refused k fs (Ok id) is e a n l v = absurd cc
    refused k fs (Err c) is e a n l v =
        let all = extends_more root k start mid new fs e a n v in
        record {
          id = tt;
          objects = all.adds;
          limit = all.limit;
          full = λ full. too_many start new (stands_for g s root v) all.adds all.limit all.whole.different (lacks_weaker new (stands_for g s k v) (stands_for g s root v) (await_part mid root fs k a v) (l full v));
          room = tt;
        }

    pub refused_visit : (fs : List (Frame Sob Id)) (f : Focus Sob Id) (x : Sob) (kept : List (Key × Id)) (r : Result Id SobFault) → IsErr r → Placing root start mid fs f kept → f ≡ focus.Visit x → ((v : ℕ → Bool) → Extends mid new (stands_for g s x v))
        → (IsErrOf r fault.Full → (v : ℕ → Bool) → LacksCell new (stands_for g s x v)) → (v : ℕ → Bool) → Places start new (stands_for g s root v) r
    refused_visit fs f x kept r is p e n l =
        refused x fs r is p.extends (subst (λ (k : Focus Sob Id). Await (IsIdOfNode g s mid) (IsConsOf g s) root fs (key_in k)) e p.awaits) n l

    pub refused_give : (fs gs : List (Frame Sob Id)) (f : Focus Sob Id) (frame : Frame Sob Id) (x : Sob) (id : Id) (kept : List (Key × Id)) (r : Result Id SobFault) → IsErr r → Placing root start mid fs f kept → f ≡ focus.Give x id → fs ≡ frame ∷ gs → ((v : ℕ → Bool) → Extends mid new (stands_for g s frame.whole v))
        → (IsErrOf r fault.Full → (v : ℕ → Bool) → LacksCell new (stands_for g s frame.whole v)) → (v : ℕ → Bool) → Places start new (stands_for g s root v) r
    refused_give fs gs f frame x id kept r is p e l n k =
        let a : Await (IsIdOfNode g s mid) (IsConsOf g s) root (frame ∷ gs) x = subst (λ (ks : List (Frame Sob Id)). Await (IsIdOfNode g s mid) (IsConsOf g s) root ks x) l (subst (λ (h : Focus Sob Id). Await (IsIdOfNode g s mid) (IsConsOf g s) root fs (key_in h)) e p.awaits) in
        refused frame.whole gs r is p.extends a.2 n k

  -- nothing is left
  pub placed : (root : Sob) (start now : Held) (fs : List (Frame Sob Id)) (f : Focus Sob Id) (x : Sob) (id : Id) (kept : List (Key × Id)) → Placing root start now fs f kept → f ≡ focus.Give x id → fs ≡ [] → (v : ℕ → Bool) → Places start now (stands_for g s root v) (Ok id)
  placed root start now fs f x id kept p e l v =
      let root_is : x ≡ root = subst (λ (ks : List (Frame Sob Id)). Await (IsIdOfNode g s now) (IsConsOf g s) root ks x) l (subst (λ (k : Focus Sob Id). Await (IsIdOfNode g s now) (IsConsOf g s) root fs (key_in k)) e p.awaits) in
      let right : IsIdOfNode g s now x id = subst (λ (k : Focus Sob Id). IsSound (IsConstantNode g s) (IsIdOfNode g s now) k) e p.sound in
      let here : IsIdOf now.objects (stands_for g s root v) id = subst (λ (k : Sob). IsIdOf now.objects (stands_for g s k v) id) root_is (right.is v) in
      let all = p.extends v in
      record {
        id = here;
        objects = all.adds;
        limit = all.limit;
        full = λ is. absurd cc;
        room = has_room start now (stands_for g s root v) all.adds all.limit (subst (AreHeld now.objects) here.1 (all.whole.parts id here.0)) all.whole.within;
      }

pub places_as : (x y : Object) (held : Held) (id : Id) → x ≡ y → IsIdOf held.objects y id → PlacesObject held held x (Ok id)
places_as x y held id e h = places_none x held id (subst (λ (z : Object). IsIdOf held.objects z id) (sym e) h)

-- what an atom's refusal lacks
pub atom_lacks : (old new : Held) (x : Object) (r : Result Id Full) (f : Full) → r ≡ Err f → PlacesObject old new x r → LacksCell new x
atom_lacks old new x r f e p = (subst (λ (q : Result Id Full). PlacesObject old new x q) e p).lacks

module _ {B : Type 0} (g : Ghosts B) (s : SobsSeen B) where
  pub node_id : (old new : Held) (x : Sob) (id : Id) → IsConstantNode g s x → ((v : ℕ → Bool) → PlacesObject old new (stands_for g s x v) (Ok id)) → IsIdOfNode g s new x id
  node_id old new x id n p = record { node = n; is = λ v. (p v).id }

  -- the parts of a constant cons
  pub pair_of : (a d x : Sob) → IsConstantNode g s x → (a.number < x.number) × (d.number < x.number) → is_constant g s x ≡ (is_constant g s a && is_constant g s d) → ((v : ℕ → Bool) → stands_for g s x v ≡ Cons (stands_for g s a v) (stands_for g s d v)) → IsConsOf g s a d x
  pair_of a d x n p c m =
      let both : (is_constant g s a && is_constant g s d) ≡ true = sym c ∙ n.constant in
      record {
        first = record { live = omega (arith, p.0, n.live); constant = and_first (is_constant g s a) (is_constant g s d) both };
        second = record { live = omega (arith, p.1, n.live); constant = and_second (is_constant g s a) (is_constant g s d) both };
        whole = n;
        first_below = p.0;
        second_below = p.1;
        is = m;
      }
