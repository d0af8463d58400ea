-- `number::inverse::euclid`: the second remainder falls at each call, and each call keeps what `EuclidStep` says.
use Prim.Native.Nat.{◌%◌, ◌<◌}
use native.Mathlib.Omega.{arith}
use native.Mathlib.Nat.{mod-lt, pos_of_ne-zero}
use Rattle.number.proofs.Euclid.{euclid-step, euclid-end}
use Rattle.number.proofs.inverse.+euclid.Goals as goal

pub euclid-requires : goal.euclid-requires
euclid-requires t c =
    let m : c.args.r0 % c.args.r1 < c.args.r1 = mod-lt c.args.r0 (pos_of_ne-zero c.if-r1-eq0.false) in
    let d = c.difference-s2.ensures in
    (omega arith, euclid-step c.requires c.product-q.ensures.1 d.0 d.1)

pub returns-then-r1-eq0 : goal.returns-then-r1-eq0
returns-then-r1-eq0 t c = let S = c.requires in euclid-end (rw c.if-r1-eq0.true at S)
