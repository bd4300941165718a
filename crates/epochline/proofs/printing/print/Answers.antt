-- `print` meets its contract: each number is put behind those that stand.
use Rattle.std.proofs.Common.{◌∙◌, [], ◌∷◌, ◌++◌, zero-add}
use Rattle.epochline.specs.Decimal.{decimal}
use Rattle.epochline.proofs.Printed.{Stands, stands_then, stands_four}
use Rattle.epochline.proofs.printing.print.Goals as goal

pub returns : goal.returns
returns c =
    let out = c.args.out.now in
    let one : Stands out c.put-at.new.out c.put-at.result (decimal c.from.result ++ (32 ∷ [])) =
    record { bytes = c.put-at.ensures.0; long = c.put-at.ensures.1 ∙ zero-add _ }
    in
    let two = stands_then out _ _ _ _ _ _ one c.put-at-2.ensures.0 c.put-at-2.ensures.1 in
    let three = stands_then out _ _ _ _ _ _ two c.put-at-3.ensures.0 c.put-at-3.ensures.1 in
    rw (c.from.ensures, c.from-2.ensures) at (stands_four out _ _ _ _ _ _ (stands_then out _ _ _ _ _ _ three c.put.ensures.0 c.put.ensures.1))
