use Rattle.std.proofs.Common.{◌≡◌, ◌∙◌, ap, refl, rules, ◌<◌, ◌+◌, ℕ, ℤ, false, List, [], ◌++◌, length, get_or, arith}
use Rattle.std.proofs.lemmas.List.{get_or_default, length-map}
use Rattle.lrat_tool.specs.Held.{last_id}
use Rattle.lrat_tool.specs.Logs.{LogEntry}
use Rattle.lrat_tool.specs.declared.log.Log.{Log}
use Rattle.lrat_tool.proofs.Joined.{put_behind}
use Rattle.lrat_tool.proofs.joining.put_entry.Goals as goal

pub returns : goal.returns
returns c =
    let first = c.args.first in
    let log = c.args.log.now in
    let other = c.args.other.now in
    let k = c.args.k in
    let mid : Log = record { clauses = c.push_all.new.self; hints = c.push_all-2.new.self; ids = log.ids; lines = log.lines; rats = log.rats } in
    let id = c.index-id.result.now in
    let line = c.in-Some.line in
    let below = c.index-2.result.now in
    let same_id : id ≡ get_or other.ids.items k 0 = c.index-id.ensures ∙ get_or_default other.ids.items k id 0 c.requires.within in
    let at_line : c.index.result.now ≡ get_or other.lines.items k 0 = c.index.ensures ∙ get_or_default other.lines.items k c.index.result.now 0 (omega (arith, c.requires.within, c.requires.even)) in
    let same_line : line ≡ get_or other.lines.items k 0 + c.args.lines = omega (arith, at_line, c.in-Some.ensures.1) in
    let same_rat : below ≡ get_or other.rats.items k false = c.index-2.ensures ∙ get_or_default other.rats.items k below false (omega (arith, c.requires.within, c.requires.even)) in
    let rises : last_id first log.ids.items < id = search rules in
    let clauses : c.push_all.new.self ≡ record { lists = log.clauses.lists; rest = log.clauses.rest ++ get_or other.clauses.lists k [] } =
    c.in_ok-push_all.ensures.ok ∙ ap (λ (l : List ℤ). record { lists = log.clauses.lists; rest = log.clauses.rest ++ l }) c.at.ensures in
    let hints : c.push_all-2.new.self ≡ record { lists = log.hints.lists; rest = log.hints.rest ++ get_or other.hints.lists k [] } =
    c.in_ok-push_all-2.ensures.ok ∙ ap (λ (l : List ℕ). record { lists = log.hints.lists; rest = log.hints.rest ++ l }) c.at-2.ensures in
    λ es ds h g.
    let inside : k < length ds = omega (arith, c.requires.within, ap length g.ids, length-map ds (λ (e : LogEntry). e.id)) in
    put_behind first ds other g k inside es log mid c.end_entry.new.log id line c.args.lines below h rises same_id same_line same_rat clauses hints refl refl refl c.in_ok-end_entry.ensures
