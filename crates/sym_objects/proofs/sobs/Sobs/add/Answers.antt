use Rattle.std.proofs.Common.{◌≡◌, ◌<◌, ◌∷◌, ◌++◌, [], length, subst, sym, ap, ◌∙◌}
use Rattle.sym_objects.specs.Inside.{AreProper, IsSound}
use Rattle.sym_objects.specs.Seen.{SobsSeen}
use Rattle.sym_objects.specs.Table.{Marked, numbered}
use Rattle.sym_objects.proofs.Adding.{bits_at, bits_added, constant_at, makes_found, makes_added, sound_push}
use Rattle.sym_objects.proofs.Keeping.{constant_add}
use Rattle.sym_objects.proofs.sobs.Sobs.add.Goals as goal

pub returns-in-Some-clause-makes : goal.returns-in-Some-clause-makes
returns-in-Some-clause-makes g c =
    makes_found g.B.Meaning c.args.self.now (record { number = c.in-Some.number }) c.args.node c.requires.whole
    (subst (λ (s : SobsSeen g.row.B.Denot). c.in-Some.number < length s.nodes) c.self.view_is c.in-Some.ensures.found.0)
    (subst (λ (s : SobsSeen g.row.B.Denot). AreProper s.nodes) c.self.view_is c.self.invariant.proper)
    (subst (λ (s : SobsSeen g.row.B.Denot). numbered s.nodes c.in-Some.number ≡ c.args.node) c.self.view_is c.in-Some.ensures.found.1)

pub returns-in-Some-clause-constant : goal.returns-in-Some-clause-constant
returns-in-Some-clause-constant g c =
    constant_at g.B.Meaning c.args.self.now (record { number = c.in-Some.number }) c.args.node
    (subst (λ (s : SobsSeen g.row.B.Denot). c.in-Some.number < length s.nodes) c.self.view_is c.in-Some.ensures.found.0)
    (subst (λ (s : SobsSeen g.row.B.Denot). AreProper s.nodes) c.self.view_is c.self.invariant.proper)
    (subst (λ (s : SobsSeen g.row.B.Denot). numbered s.nodes c.in-Some.number ≡ c.args.node) c.self.view_is c.in-Some.ensures.found.1)

pub returns-in-Some-clause-bits : goal.returns-in-Some-clause-bits
returns-in-Some-clause-bits g c =
    bits_at c.args.self.now.nodes (record { number = c.in-Some.number }) c.args.node
    (subst (λ (s : SobsSeen g.row.B.Denot). c.in-Some.number < length s.nodes) c.self.view_is c.in-Some.ensures.found.0)
    (subst (λ (s : SobsSeen g.row.B.Denot). AreProper s.nodes) c.self.view_is c.self.invariant.proper)
    (subst (λ (s : SobsSeen g.row.B.Denot). numbered s.nodes c.in-Some.number ≡ c.args.node) c.self.view_is c.in-Some.ensures.found.1)

pub invariant_of-self : goal.invariant_of-self
invariant_of-self g c =
    subst (λ (t : Marked). IsSound g.B.Meaning.constant_edge t) (sym c.push.ensures.added)
    (sound_push g.B.Meaning c.args.self.now c.self.inside.table c.args.node c.is_constant_node-mark.result (sym (ap (λ (s : SobsSeen g.row.B.Denot). s.nodes) c.self.view_is)) c.self.invariant c.requires.proper c.is_constant_node-mark.ensures)

pub returns-clause-makes : goal.returns-clause-makes
returns-clause-makes g c =
    makes_added g.B.Meaning c.args.self.now _ (record { number = c.push.result }) c.args.node
    (ap (λ (t : Marked). record { store = c.self.inside.store; nodes = t.nodes; limit = t.limit }) c.push.ensures.added
    ∙ ap (λ (s : SobsSeen g.row.B.Denot). record s { nodes = s.nodes ++ c.args.node ∷ [] }) c.self.view_is)
    c.requires.whole c.requires.edges
    (c.push.ensures.number ∙ ap (λ (s : SobsSeen g.row.B.Denot). length s.nodes) c.self.view_is)

pub returns-clause-constant : goal.returns-clause-constant
returns-clause-constant g c =
    constant_add g.B.Meaning c.args.self.now _ c.args.node (record { number = c.push.result })
    (ap (λ (t : Marked). record { store = c.self.inside.store; nodes = t.nodes; limit = t.limit }) c.push.ensures.added
    ∙ ap (λ (s : SobsSeen g.row.B.Denot). record s { nodes = s.nodes ++ c.args.node ∷ [] }) c.self.view_is)
    (c.push.ensures.number ∙ ap (λ (s : SobsSeen g.row.B.Denot). length s.nodes) c.self.view_is)

pub returns-clause-bits : goal.returns-clause-bits
returns-clause-bits g c =
    bits_added c.args.self.now.nodes c.push.new.self.nodes c.args.node (record { number = c.push.result })
    (ap (λ (t : Marked). t.nodes) c.push.ensures.added ∙ ap (λ (s : SobsSeen g.row.B.Denot). s.nodes ++ c.args.node ∷ []) c.self.view_is)
    (c.push.ensures.number ∙ ap (λ (s : SobsSeen g.row.B.Denot). length s.nodes) c.self.view_is)
