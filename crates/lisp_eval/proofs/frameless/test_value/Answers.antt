use Rattle.gl_logic.specs.TermOf.{term_of}
use Rattle.lisp_eval.proofs.IntegerGives.{here_tells, found_on}
use Rattle.lisp_eval.proofs.frameless.test_value.Goals as goal

pub returns-in-Some : goal.returns-in-Some
returns-in-Some c =
    let ds = c.args.setting.now.world.now.definitions in
    let fs = c.args.setting.now.functions.now in
    let t = term_of c.args.term.now in
    here_tells ds fs c.args.scope.now t c.args.left c.args.arena.now c.args.alists.now c.in-Some.found c.requires.whole c.requires.agree (found_on ds fs c.args.scope.now c.in-Inner.locals c.in-Inner.is t c.args.left c.in-Some.found c.in-Some.ensures c.args.arena.now.objects)

pub returns-in-Some-compared_on : goal.returns-in-Some-compared_on
returns-in-Some-compared_on c =
    let ds = c.args.setting.now.world.now.definitions in
    let fs = c.args.setting.now.functions.now in
    let t = term_of c.args.term.now in
    here_tells ds fs c.args.scope.now t c.args.left c.args.arena.now c.args.alists.now c.in-Some-compared_on.found c.requires.whole c.requires.agree (found_on ds fs c.args.scope.now c.in-Inner.locals c.in-Inner.is t c.args.left c.in-Some-compared_on.found (c.in-Some-compared_on.ensures ds fs) c.args.arena.now.objects)
