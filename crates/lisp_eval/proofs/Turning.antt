-- What the parts of a turn of the evaluator's loop tell of the turn.
use Rattle.std.proofs.Common.{◌≡◌, ◌∙◌, ap, sym, refl, subst, ℕ, ◌-◌, ◌<◌, arith, List, Result, Ok, Err, inl}
use Rattle.gl_logic.specs.Definition.{Definition}
use Rattle.gl_logic.specs.Environment.{look}
use Rattle.gl_logic.specs.Every.{Every}
use Rattle.gl_logic.specs.Exp.{Exp, Var, Const}
use Rattle.gl_logic.specs.Object.{Object}
use Rattle.gl_logic.specs.declared.ids.NoMemory.{NoMemory}
use Rattle.hons_arena.specs.Held.{Held, IsWhole, Places}
use Rattle.hons_arena.specs.Ids.{object_at, IsLive}
use Rattle.hons_arena.specs.declared.id.Full.{Full}
use Rattle.hons_arena.specs.declared.id.Id.{Id}
use Rattle.memo_tables.specs.Calls.{Call}
use Rattle.std.specs.Prelude.{Option}
use Rattle.lisp_eval.specs.Bindings.{id_in}
use Rattle.lisp_eval.specs.Directs.{GivesAtOnce}
use Rattle.lisp_eval.specs.Kept.{IsKnown}
use Rattle.lisp_eval.specs.Narrow.{IsNarrow}
use Rattle.lisp_eval.specs.Nexts.{Opens}
use Rattle.lisp_eval.specs.Sights.{Sees, Adds}
use Rattle.lisp_eval.specs.States.{env_of}
use Rattle.lisp_eval.specs.Turns.{VisitTells, CallTells}
use Rattle.lisp_eval.specs.Within.{IsIn}
use Rattle.lisp_eval.specs.declared.calls.Known.TheVariants as known
use Rattle.lisp_eval.specs.declared.frame.Binding.{Binding}
use Rattle.lisp_eval.specs.declared.frame.Focus.{Focus}
use Rattle.lisp_eval.specs.declared.frame.Focus.TheVariants as focus
use Rattle.lisp_eval.specs.declared.frame.Frame.{Frame}
use Rattle.lisp_eval.specs.declared.halt.Cause.TheVariants as cause
use Rattle.lisp_eval.specs.declared.halt.Halt.{Halt}
use Rattle.lisp_eval.specs.declared.halt.Halt.TheVariants as halt
use Rattle.lisp_eval.proofs.Directly.{var_gives, const_gives}
use Rattle.lisp_eval.proofs.Environments.{look_is}
use Rattle.lisp_eval.proofs.Locals.{binding_live}
use Rattle.lisp_eval.proofs.Sights.{adds_none, adds_cells, const_seen, lacks_cell}
use Rattle.lisp_eval.proofs.WholeNarrow.{whole_narrow}

-- ---- a call that is opened
pub opens_tell : (ds : List Definition) (functions : List ℕ) (f : ℕ) (args : List Id) (entries : List (Call × Id)) (keep : Option Call) (frames stack : List Frame) (answer : Result Focus NoMemory) → IsKnown functions entries (record { function = f; arguments = args }) (known.Opens keep)
    → Opens ds f args keep frames stack answer → CallTells ds functions f args entries frames stack answer
opens_tell ds functions f args entries keep frames stack (Ok o) h n = (known.Opens keep, (h, n))
opens_tell ds functions f args entries keep frames stack (Err e) h n = tt

-- ---- a term is visited
module _ (ds : List Definition) (functions : List ℕ) (bindings : List Binding) (t : Exp) (left : ℕ) (old : Held) (frames : List Frame) where
  abbrev env : List (ℕ × Object)
  env = env_of old.objects bindings

  abbrev S : List Object → Type 0
  S = Sees ds functions env t

  abbrev Visits : ℕ → Held → List Frame → Result Focus Halt → Type 0
  Visits rest new stack answer = VisitTells ds functions bindings t left rest old new frames stack answer

  -- with one visit
  one_visit : (u : Exp) (y z : Object) → t ≡ u → z ≡ y → 0 < left → GivesAtOnce ds functions env u y 1 → GivesAtOnce ds functions env t z (left - (left - 1))
  one_visit u y z e q some g = subst (λ (v : Exp). GivesAtOnce ds functions env v z (left - (left - 1))) (sym e) (subst (λ (x : Object). GivesAtOnce ds functions env u x (left - (left - 1))) (sym q) (subst (λ (n : ℕ). GivesAtOnce ds functions env u y n) (omega (arith, some)) g))

  pub var_visited : (v : ℕ) (id : Id) → t ≡ Var v → id ≡ id_in bindings v → IsWhole old → Every (λ b. IsLive old.objects b.value) bindings → 0 < left → Visits (left - 1) old frames (Ok (focus.Give id))
  var_visited v id e q whole all some =
      let live : IsLive old.objects id = subst (IsLive old.objects) (sym q) (binding_live old.objects bindings v all) in
      let is : object_at old.objects id ≡ look env v = ap (object_at old.objects) q ∙ look_is old.objects bindings v in
      let narrow : IsNarrow (look env v) = subst IsNarrow is (whole_narrow old whole id live) in
      record {
        adds = adds_none S old whole;
        ends = inl (refl, record { value = object_at old.objects id; is = (live, refl); fewer = omega (arith, some); gives = one_visit (Var v) (look env v) (object_at old.objects id) e is some (var_gives ds functions env v narrow) });
      }

  -- a constant enters the arena
  module _ (x : Object) (e : t ≡ Const x) (new : Held) (whole : IsWhole new) where
    seen_const : (seen : List Object) → S seen → IsIn seen x
    seen_const = subst (λ (u : Exp). (seen : List Object) → Sees ds functions env u seen → IsIn seen x) (sym e) (const_seen ds functions env x)

    const_adds : (r : Result Id Full) → Places old new x r → Adds S old new
    const_adds r p = adds_cells S x old new seen_const p.objects p.limit whole

    pub const_visited : (id : Id) → Places old new x (Ok id) → 0 < left → Visits (left - 1) new frames (Ok (focus.Give id))
    const_visited id p some =
        let narrow : IsNarrow x = subst IsNarrow p.id.1 (whole_narrow new whole id p.id.0) in
        record {
          adds = const_adds (Ok id) p;
          ends = inl (refl, record { value = x; is = p.id; fewer = omega (arith, some); gives = one_visit (Const x) x x e refl some (const_gives ds functions env x narrow) });
        }

    pub const_lacks : (rest : ℕ) (full : Full) → Places old new x (Err full) → Visits rest new frames (Err (halt.Stop cause.Cells))
    const_lacks rest full p = record { adds = const_adds (Err full) p; ends = lacks_cell S x new seen_const p.lacks }
