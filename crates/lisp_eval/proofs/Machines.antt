-- Machines: what stays as their arenas grow.
use Rattle.std.proofs.Common.{◌≡◌, ◌∙◌, ap, sym, refl, subst, ℕ, zero, suc, ◌<◌, arith, List, [], ◌∷◌, ◌++◌, length, append_assoc, Result, Ok, Err, OnOk, OnErr}
use Rattle.std.specs.List.{All}
use Rattle.gl_logic.specs.Definition.{Definition}
use Rattle.gl_logic.specs.Object.{Object}
use Rattle.gl_logic.specs.Walk.{CallMade}
use Rattle.gl_logic.specs.WorldSeen.{WorldSeen}
use Rattle.hons_arena.specs.declared.id.Id.{Id}
use Rattle.hons_arena.specs.Held.{Held, AddsCellsOf}
use Rattle.hons_arena.specs.Ids.{object_at, IsLive}
use Rattle.hons_arena.proofs.Placing.{id_kept}
use Rattle.memo_tables.specs.Calls.{Call}
use Rattle.lisp_eval.specs.Answers.{FitMemos, HasGrown}
use Rattle.lisp_eval.specs.Kept.{entry_of, entries_of}
use Rattle.lisp_eval.specs.Machines.{MachineSeen, Fits, IsLiveEntry}
use Rattle.lisp_eval.specs.States.{values_of}
use Rattle.lisp_eval.proofs.Standing.{stable_live}

pub grown_by : (x : Object) (old new : List Object) → AddsCellsOf x old new → HasGrown old new
grown_by x old new a = (a.made, a.is)

-- ---- no call is kept
pub none_live : (objects : List Object) (entries : List (Call × Id)) → entries ≡ [] → All (IsLiveEntry objects) entries
none_live objects entries e k d l = let z : length entries ≡ 0 = ap length e in absurd (omega (arith, z, l))

pub none_fit : (definitions : List Definition) (objects : List Object) (entries : List (Call × Id)) → entries ≡ [] → FitMemos definitions objects entries
none_fit definitions objects entries e = record { calls = []; stand = λ more. ap (entries_of (objects ++ more)) e; right = tt }

-- ---- kept calls stand for something
heads : {A : Type 0} (x y : A) (xs ys : List A) → x ∷ xs ≡ y ∷ ys → x ≡ y
heads x y xs ys e = cc

tails : {A : Type 0} (x y : A) (xs ys : List A) → x ∷ xs ≡ y ∷ ys → xs ≡ ys
tails x y xs ys e = cc

ids_live : (objects : List Object) (ids : List Id) → ((more : List Object) → values_of (objects ++ more) ids ≡ values_of (objects ++ []) ids) → All (IsLive objects) ids
ids_live objects [] h k d l = absurd (omega (arith, l))
ids_live objects (i ∷ ids) h zero d l = stable_live objects i (object_at (objects ++ []) i) (λ more. heads _ _ _ _ (h more))
ids_live objects (i ∷ ids) h (suc k) d l = ids_live objects ids (λ more. tails _ _ _ _ (h more)) k d (omega (arith, l))

entry_live : (objects : List Object) (e : Call × Id) → ((more : List Object) → entry_of (objects ++ more) e ≡ entry_of (objects ++ []) e) → IsLiveEntry objects e
entry_live objects e h = record {
  arguments = ids_live objects e.0.arguments (λ more. ap (λ (p : CallMade × Object). p.0.1) (h more));
  value = stable_live objects e.1 (object_at (objects ++ []) e.1) (λ more. ap (λ (p : CallMade × Object). p.1) (h more));
}

entries_live : (objects : List Object) (es : List (Call × Id)) → ((more : List Object) → entries_of (objects ++ more) es ≡ entries_of (objects ++ []) es) → All (IsLiveEntry objects) es
entries_live objects [] h k d l = absurd (omega (arith, l))
entries_live objects (e ∷ es) h zero d l = entry_live objects e (λ more. heads _ _ _ _ (h more))
entries_live objects (e ∷ es) h (suc k) d l = entries_live objects es (λ more. tails _ _ _ _ (h more)) k d (omega (arith, l))

pub fit_live : (definitions : List Definition) (objects : List Object) (entries : List (Call × Id)) → FitMemos definitions objects entries → All (IsLiveEntry objects) entries
fit_live definitions objects entries f = entries_live objects entries (λ more. f.stand more ∙ sym (f.stand []))

-- ---- more cells
pub live_more : (x : Object) (old new : List Object) (entries : List (Call × Id)) → AddsCellsOf x old new → All (IsLiveEntry old) entries → All (IsLiveEntry new) entries
live_more x old new entries a h k d l =
    let e = h k d l in
    let id : (i : Id) → IsLive old i → IsLive new i = λ i live. (id_kept x old new (object_at old i) i a (live, refl)).0 in
    record { arguments = λ j b m. id _ (e.arguments j b m); value = id _ e.value }

pub fit_more : (definitions : List Definition) (old new : List Object) (entries : List (Call × Id)) → HasGrown old new → FitMemos definitions old entries → FitMemos definitions new entries
fit_more definitions old new entries g f = record {
  calls = f.calls;
  stand = λ more. ap (λ all. entries_of all entries) (ap (λ zs. zs ++ more) g.1 ∙ append_assoc old g.0 more) ∙ f.stand (g.0 ++ more);
  right = f.right;
}

-- ---- a machine that fits a world
pub fits_more : (w : WorldSeen) (old new : MachineSeen) → HasGrown old.arena.objects new.arena.objects → new.functions ≡ old.functions → new.memos ≡ old.memos → Fits w old → Fits w new
fits_more w old new g f m h = record {
  functions = subst (λ (fs : List ℕ). All (λ f. f < length w.definitions) fs) (sym f) h.functions;
  memos = subst (λ (es : List (Call × Id)). FitMemos w.definitions new.arena.objects es) (sym m) (fit_more w.definitions old.arena.objects new.arena.objects old.memos g h.memos);
}

pub fits_kept : (w : WorldSeen) (old new : MachineSeen) → FitMemos w.definitions new.arena.objects new.memos → new.functions ≡ old.functions → Fits w old → Fits w new
fits_kept w old new memos f h = record {
  functions = subst (λ (fs : List ℕ). All (λ f. f < length w.definitions) fs) (sym f) h.functions;
  memos = memos;
}

-- ---- after calls
pub fits_input : (w : WorldSeen) (old new : MachineSeen) (a : Held) (x : Object) → a ≡ old.arena → AddsCellsOf x a.objects new.arena.objects → new.functions ≡ old.functions → new.memos ≡ old.memos → Fits w old → Fits w new
fits_input w old new a x e adds f m h = fits_more w old new (subst (λ (b : Held). HasGrown b.objects new.arena.objects) e (grown_by x a.objects new.arena.objects adds)) f m h

pub memos_fit : {E : Type 0} (definitions : List Definition) (objects : List Object) (entries : List (Call × Id)) (r : Result Id E) → OnOk r (FitMemos definitions objects entries) → OnErr r (entries ≡ []) → FitMemos definitions objects entries
memos_fit definitions objects entries (Ok id) f e = f
memos_fit definitions objects entries (Err g) f e = none_fit definitions objects entries e
