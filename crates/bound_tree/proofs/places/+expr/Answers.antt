use Rattle.bound_tree.proofs.CallSteps.{call_steps, unknown_call_steps}
use Rattle.bound_tree.proofs.places.+expr.Goals as goal

pub put_expr-returns-in_ok-put_value-in-Call : goal.put_expr-returns-in_ok-put_value-in-Call
put_expr-returns-in_ok-put_value-in-Call t c =
    call_steps _ _ _ _ _ _ _ _ _ _ _ _ _ _ _ c.in-Call.is c.get-in-Call.ensures c.as_slice-in-Call.ensures c.as_slice-in-Call-2.ensures
    c.get-in-Call-2.ensures c.in_ok-put-in-Call.ensures c.in_ok-put_args-in-Call.ensures c.in_ok-put_value-in-Call.ensures

pub put_expr-returns-in_ok-put_value-in-UnknownCall : goal.put_expr-returns-in_ok-put_value-in-UnknownCall
put_expr-returns-in_ok-put_value-in-UnknownCall t c =
    unknown_call_steps _ _ _ _ _ _ _ _ _ _ _ _ _ _ c.in-UnknownCall.is c.as_slice-in-UnknownCall.ensures c.as_slice-in-UnknownCall-2.ensures
    c.get-in-UnknownCall.ensures c.as_slice-in-UnknownCall-3.ensures c.in_ok-put_args-in-UnknownCall.ensures c.in_ok-put_value-in-UnknownCall.ensures
