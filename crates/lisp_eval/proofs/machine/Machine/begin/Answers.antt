use Rattle.std.proofs.Common.{◌≡◌, ◌∙◌, ap, [], List, All}
use Rattle.fast_alists.specs.Tables.{Agree}
use Rattle.fast_alists.proofs.Agreeing.{none_agree}
use Rattle.gl_logic.specs.Object.{Object}
use Rattle.hons_arena.specs.declared.id.Id.{Id}
use Rattle.memo_tables.specs.Calls.{Call}
use Rattle.lisp_eval.specs.Machines.{MachineSeen, IsLiveEntry}
use Rattle.lisp_eval.proofs.Machines.{none_live}
use Rattle.lisp_eval.proofs.machine.Machine.begin.Goals as goal

-- no list has a table, and no call is kept, whatever the arena holds
none_of_both : (m : MachineSeen) (tables : List (Id × List (Id × Id))) (memos : List (Call × Id)) (objects : List Object) → tables ≡ m.tables → memos ≡ m.memos → m.tables ≡ [] → m.memos ≡ [] → Agree objects tables × All (IsLiveEntry objects) memos
none_of_both m tables memos objects t e none nothing = (none_agree objects tables (t ∙ none), none_live objects memos (e ∙ nothing))

pub invariant_of-self : goal.invariant_of-self
invariant_of-self c =
    none_of_both c.empty.new.self c.self.inside.alists c.self.inside.memos c.set_up.new.arena.objects (ap (λ (m : MachineSeen). m.tables) c.self.view_is) (ap (λ (m : MachineSeen). m.memos) c.self.view_is) c.empty.ensures.tables c.empty.ensures.memos

pub invariant_of-self-in-Err : goal.invariant_of-self-in-Err
invariant_of-self-in-Err c =
    none_of_both c.empty.new.self c.self.inside.alists c.self.inside.memos c.set_up.new.arena.objects (ap (λ (m : MachineSeen). m.tables) c.self.view_is) (ap (λ (m : MachineSeen). m.memos) c.self.view_is) c.empty.ensures.tables c.empty.ensures.memos
