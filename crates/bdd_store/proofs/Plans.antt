-- Choices in other words.
use Rattle.std.proofs.Common.{◌≡◌, Bool, true, false, not, cond, refl}
use Rattle.bfr_store.specs.declared.edge.Edge.{Edge}
use Rattle.bfr_store.specs.Edges.{node_of}
use Rattle.bdd_store.specs.declared.plan.Plan.{Plan}
use Rattle.bdd_store.specs.declared.plan.Plan.TheVariants.{Known, Both, Whole}
use Rattle.bdd_store.specs.Plans.{IsDrawn, IsDrawnPlan}

-- the high edge matters where the test is true alone, the low edge where it is false
pub cond_under : (t u x y p q : Bool) → u ≡ not t → (t ≡ true → p ≡ x) → (u ≡ true → q ≡ y) → cond t p q ≡ cond t x y
cond_under true u x y p q e h k = h refl
cond_under false u x y p q e h k = k e

-- what is drawn from edges that are drawn themselves is drawn
pub drawn_through : (t x y s u v r : Edge) → IsDrawn t x y s → IsDrawn t x y u → IsDrawn t x y v → IsDrawn s u v r → IsDrawn t x y r
drawn_through t x y s u v r h k l g f m zero at_t at_x at_y = g f m zero (h f m zero at_t at_x at_y) (k f m zero at_t at_x at_y) (l f m zero at_t at_x at_y)

pub plan_through : (t x y s u v : Edge) (p : Plan) → IsDrawn t x y s → IsDrawn t x y u → IsDrawn t x y v → IsDrawnPlan s u v p → IsDrawnPlan t x y p
plan_through t x y s u v (Known r) h k l g = drawn_through t x y s u v r h k l g
plan_through t x y s u v (Both a b flag) h k l g = (drawn_through t x y s u v a h k l g.0, drawn_through t x y s u v b h k l g.1)
plan_through t x y s u v (Whole a b c flag) h k l g = (drawn_through t x y s u v a h k l g.0, drawn_through t x y s u v b h k l g.1, drawn_through t x y s u v c h k l g.2)

-- an edge is drawn from three where its node is the node of one
pub drawn_first : (t x y r : Edge) → node_of r ≡ node_of t → IsDrawn t x y r
drawn_first t x y r e f m zero at_t at_x at_y = rw e at_t

pub drawn_second : (t x y r : Edge) → node_of r ≡ node_of x → IsDrawn t x y r
drawn_second t x y r e f m zero at_t at_x at_y = rw e at_x

pub drawn_third : (t x y r : Edge) → node_of r ≡ node_of y → IsDrawn t x y r
drawn_third t x y r e f m zero at_t at_x at_y = rw e at_y

-- two edges where the third is drawn from the second twice
pub drawn_under : (t u x y r : Edge) → node_of u ≡ node_of t → IsDrawn u y y r → IsDrawn t x y r
drawn_under t u x y r e g f m zero at_t at_x at_y = g f m zero (rw e at_t) at_y at_y
