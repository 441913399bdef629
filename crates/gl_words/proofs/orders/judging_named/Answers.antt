use Rattle.std.proofs.Common.{rules, map, string_bytes}
use Rattle.clap.specs.Words.{fault_of, matches_of}
use Rattle.gl_words.specs.Words.{judge_from, lrat_app}
use Rattle.gl_words.proofs.Faults.{none}
use Rattle.gl_words.proofs.orders.judging_named.Goals as goal

pub returns-in-Err-Usage-clause-order : goal.returns-in-Err-Usage-clause-order
returns-in-Err-Usage-clause-order c = none (fault_of lrat_app (map string_bytes c.args.words.now)) (judge_from (matches_of lrat_app (map string_bytes c.args.words.now))) (c.in-Err-Usage.ensures.usage (search rules))
