use Rattle.std.proofs.Common.{◌-◌, ◌<◌, ◌∙◌, sym, subst, arith, length, length-set}
use Rattle.bdd_store.specs.Inside.{IsAnswer}
use Rattle.bdd_store.proofs.Finished.{answers-set}
use Rattle.bdd_store.proofs.tables.widen.Goals as goal

pub loop-place-preserved : goal.loop-place-preserved
loop-place-preserved c =
    let items = c.loop-place.entries.items in
    let entry = c.index-entry.result.now in
    let within : c.loop-place.place - 1 < length items = omega (arith, c.loop-place.invariant.len, c.loop-place.auto.place) in
    record {
      len = length-set items c.place_of-new_place.result entry ∙ c.loop-place.invariant.len;
      answers = λ nodes some all.
          let each = c.loop-place.invariant.answers nodes some all in
          answers-set nodes items c.place_of-new_place.result entry each (subst (IsAnswer nodes) (sym c.index-entry.ensures) (each (c.loop-place.place - 1) entry within));
      room = c.loop-place.invariant.room;
    }
