use Rattle.std.proofs.Common.{◌≡◌, ℕ, ◌+◌, ◌<◌, ◌≤◌, ◌∷◌, ◌++◌, [], length, take, min, arith, ap, ◌∙◌, sym}
use Rattle.std.proofs.lemmas.List.{take_more, take_min}
use Rattle.sym_bits.proofs.Reading.{read_at}
use Rattle.sym_bits.proofs.lists.lowest.Goals as goal

pub loop-k-preserved : goal.loop-k-preserved
loop-k-preserved c =
    let xs = c.args.a.now in
    let k = c.loop-k.k in
    let e = c.at-in-loop-k.result in
    let i : c.loop-k.low ≡ take k xs = c.loop-k.invariant in
    let l : k < length xs = omega arith in
    c.push.ensures ∙ (ap (λ es. es ++ e ∷ []) i ∙ sym (take_more xs k e l ∙ ap (λ y. take k xs ++ y ∷ []) (read_at xs k e e c.at-in-loop-k.ensures)))

pub returns : goal.returns
returns c =
    let xs = c.args.a.now in
    let k = c.loop-k.k in
    let i : c.loop-k.low ≡ take k xs = c.loop-k.invariant in
    let ended : k ≡ min c.args.width (length xs) = omega arith in
    i ∙ (ap (λ n. take n xs) ended ∙ take_min c.args.width xs)
