-- The bit store, lent.
use Rattle.std.specs.Borrow.{Lends, MutBor, Fml, RattleType}
use Rattle.bfr_store.specs.declared.meaning.Meaning.{Ghosts}
use Rattle.sym_objects.specs.Seen.{SobsSeen}
use Rattle.sym_objects.specs.contracts.sobs.Sobs.{the_row}

-- A caller of `Sobs::store` that calls the store and lets the reference go knows of the table `new` afterwards that it is
-- `record old { store = w }`, with w what the call left of the store, and from the call's own clause that the store keeps
-- what it held. `keeps_by_store` of `proofs/Keeping` makes `Keeps` of the two, and `grows_by_store` makes `Grows` after a
-- decision or a variable. `choose_edge` of `src/edges.rt` is such a caller, with its proof. An answer of the store is live in
-- `new.store`, whatever nodes are made next: `Keeps` of the next call says so in `store.stays`.

-- the table ends with the store that is behind the lent reference at last, and with the nodes and the limit that it has
abbrev pub LendsStore : (B : RattleType) → Ghosts B.Denot → MutBor (SobsSeen B.Denot) → MutBor B.Denot → Fml
LendsStore B g s r = Lends (the_row B g) B s r (λ w. record s.now { store = w })
