-- Below 0 the size is written into the part after the sign.
use mathlib.Core.Path.{sym}
use Rattle.output.proofs.Signed.{signed_text}
use Rattle.output.proofs.Writing.{written-whole}
use Rattle.output.proofs.write_number.Goals as goal

pub returns-then-is_negative : goal.returns-then-is_negative
returns-then-is_negative c =
    let text = signed_text c.args.z.0 c.magnitude-size.ensures c.is_negative.ensures c.if-is_negative.true in
    written-whole (record { parts = sym text; room = c.requires }) c.write_bytes-at.ensures c.write_decimal.ensures
