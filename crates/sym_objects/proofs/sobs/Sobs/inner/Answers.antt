use Rattle.std.proofs.Common.{◌≡◌, ◌∙◌, ap, sym, subst}
use Rattle.std.proofs.lemmas.Option.{get_or_from_slice_get}
use Rattle.sym_objects.specs.declared.node.Node.TheVariants as node
use Rattle.sym_objects.specs.Inside.{AreProper}
use Rattle.sym_objects.specs.Nodes.{node_at}
use Rattle.sym_objects.specs.Seen.{SobsSeen}
use Rattle.sym_objects.proofs.Adding.{bits_at, constant_at, means_at}
use Rattle.sym_objects.proofs.BitsOf.{bits_are}
use Rattle.sym_objects.proofs.sobs.Sobs.inner.Goals as goal

pub returns-clause-means : goal.returns-clause-means
returns-clause-means g c a =
    let is : node_at c.args.self.now.nodes c.args.s ≡ c.node.result =
    sym (ap (λ (s : SobsSeen g.row.B.Denot). node_at s.nodes c.args.s) c.self.view_is) ∙ get_or_from_slice_get c.self.inside.table.nodes c.args.s.number c.node.result (node.Character 0) c.node.ensures in
    means_at g.B.Meaning c.args.self.now c.args.s c.node.result c.requires.live (subst (λ (s : SobsSeen g.row.B.Denot). AreProper s.nodes) c.self.view_is c.self.invariant.proper) is a

pub returns-clause-constant : goal.returns-clause-constant
returns-clause-constant g c =
    let is : node_at c.args.self.now.nodes c.args.s ≡ c.node.result =
    sym (ap (λ (s : SobsSeen g.row.B.Denot). node_at s.nodes c.args.s) c.self.view_is) ∙ get_or_from_slice_get c.self.inside.table.nodes c.args.s.number c.node.result (node.Character 0) c.node.ensures in
    constant_at g.B.Meaning c.args.self.now c.args.s c.node.result c.requires.live (subst (λ (s : SobsSeen g.row.B.Denot). AreProper s.nodes) c.self.view_is c.self.invariant.proper) is

pub returns-clause-bits : goal.returns-clause-bits
returns-clause-bits g c =
    let is : node_at c.args.self.now.nodes c.args.s ≡ c.node.result =
    sym (ap (λ (s : SobsSeen g.row.B.Denot). node_at s.nodes c.args.s) c.self.view_is) ∙ get_or_from_slice_get c.self.inside.table.nodes c.args.s.number c.node.result (node.Character 0) c.node.ensures in
    bits_at c.args.self.now.nodes c.args.s c.node.result c.requires.live (subst (λ (s : SobsSeen g.row.B.Denot). AreProper s.nodes) c.self.view_is c.self.invariant.proper) is

pub returns-clause-integer : goal.returns-clause-integer
returns-clause-integer g c some =
    bits_are g.B.Meaning c.args.self.now c.requires.whole (subst (λ (s : SobsSeen g.row.B.Denot). AreProper s.nodes) c.self.view_is c.self.invariant.proper) c.args.s c.requires.live some
