use Rattle.std.proofs.lemmas.Result.{err_from_is_err_and}
use Rattle.type_steps.proofs.Steps.{go, stop}
use Rattle.call_steps.proofs.Giving.{print_so}
use Rattle.call_steps.specs.Printed.{printed_of, format_seen}
use Rattle.call_steps.proofs.prints.text_print.Goals as goal

pub returns-in_err-need_alone : goal.returns-in_err-need_alone
returns-in_err-need_alone c =
    let q = err_from_is_err_and c.from_residual.result c.from_residual.ensures.1 in
    print_so c.args.spot c.args.alone c.args.text.now (format_seen c.args.format) (printed_of c.args.printed) c.requires (stop _ _ c.in_err-need_alone.ensures q.1 q.2)

pub returns-in_err-need_fit : goal.returns-in_err-need_fit
returns-in_err-need_fit c =
    let q = err_from_is_err_and c.from_residual-in_err-need_fit.result c.from_residual-in_err-need_fit.ensures.1 in
    print_so c.args.spot c.args.alone c.args.text.now (format_seen c.args.format) (printed_of c.args.printed) c.requires (go _ _ c.in_ok-need_alone.ensures (stop _ _ c.in_err-need_fit.ensures q.1 q.2))

pub returns : goal.returns
returns c =
    print_so c.args.spot c.args.alone c.args.text.now (format_seen c.args.format) (printed_of c.args.printed) c.requires (go _ _ c.in_ok-need_alone.ensures (go _ _ c.in_ok-need_fit.ensures c.print_value.ensures))
