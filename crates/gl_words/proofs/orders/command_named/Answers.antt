use Rattle.std.proofs.Common.{◌∙◌, ap, rules, map, string_bytes}
use Rattle.clap.specs.Words.{fault_of, matches_of}
use Rattle.gl_words.specs.Words.{gl_app, order_from}
use Rattle.gl_words.proofs.Faults.{given, none}
use Rattle.gl_words.proofs.orders.command_named.Goals as goal

pub returns-in-Ok-clause-order : goal.returns-in-Ok-clause-order
returns-in-Ok-clause-order c =
    let words = map string_bytes c.args.words.now in
    c.order_in.ensures.order ∙ (ap order_from c.in-Ok.ensures.rows ∙ given (fault_of gl_app words) (order_from (matches_of gl_app words)) c.in-Ok.ensures.exact)

pub returns-in-Err-Usage-clause-order : goal.returns-in-Err-Usage-clause-order
returns-in-Err-Usage-clause-order c = none (fault_of gl_app (map string_bytes c.args.words.now)) (order_from (matches_of gl_app (map string_bytes c.args.words.now))) (c.in-Err-Usage.ensures.usage (search rules))
