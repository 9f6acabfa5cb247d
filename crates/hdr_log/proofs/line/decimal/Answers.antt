use Rattle.std.proofs.Common.{◌≡◌, true, sym, arith}
use Rattle.std.specs.Str.{is_utf8}
use Rattle.hdr_log.proofs.PartsFronts.{decimal_text}
use Rattle.hdr_log.proofs.line.decimal.Goals as goal

pub returns-then-is_decimal : goal.returns-then-is_decimal
returns-then-is_decimal c = let u : is_utf8 c.args.bytes.now ≡ true = decimal_text c.args.bytes.now (sym c.if-is_decimal.ensures) in
    grind (arith, u, c.text.ensures, c.if-is_decimal.ensures)
