use Rattle.std.proofs.Common.{◌≡◌, ◌∙◌, ap₂, codes, rules}
use Rattle.std.proofs.lemmas.Result.{IfOk-weaker}
use Rattle.clap.specs.Words.{App, Text, with_rule, rule_of, new_rule}
use Rattle.gl_words.specs.Words.{option_rule, plain_app}
use Rattle.gl_words.proofs.words.plain_command.Goals as goal

one_more : (c a b : App) (t s : Text) → c ≡ with_rule a (option_rule t) → a ≡ b → t ≡ s → c ≡ with_rule b (option_rule s)
one_more c a b t s e f g = e ∙ (λ i. with_rule (f i) (option_rule (g i)))

pub returns : goal.returns
unfolding plain_app
returns c =
    let e0 = one_more _ _ _ _ (codes "workers") c.in_ok-command.ensures c.new-command.ensures.app (search rules) in
    let e1 = one_more _ _ _ _ (codes "steps") c.in_ok-command-2.ensures e0 (search rules) in
    let e2 = one_more _ _ _ _ (codes "cells") c.in_ok-command-3.ensures e1 (search rules) in
    let e3 = one_more _ _ _ _ (codes "nodes") c.in_ok-command-4.ensures e2 (search rules) in
    let e4 = one_more _ _ _ _ (codes "clauses") c.in_ok-command-5.ensures e3 (search rules) in
    let e5 = one_more _ _ _ _ (codes "enum-bits") c.in_ok-command-6.ensures e4 (search rules) in
    let e6 = one_more _ _ _ _ (codes "generate") c.in_ok-command-7.ensures e5 (search rules) in
    let e7 = one_more _ _ _ _ (codes "proof") c.in_ok-command-8.ensures e6 (search rules) in
    let book : rule_of c.new.result ≡ new_rule (codes "BOOK") = search rules in
    IfOk-weaker c.arg.result _ _ (λ x h. h.shape (search rules) ∙ ap₂ with_rule e7 book) c.arg.ensures
