use Rattle.std.proofs.Common.{◌<◌, ◌^◌, arith, length}
use Rattle.consistency.proofs.Flattening.{fits_of, numbered_of}
use Rattle.consistency.proofs.flat.flat_of.Goals as goal

pub returns-clause-fits : goal.returns-clause-fits
returns-clause-fits c =
    let g = c.in_ok-flat.flat in
    let many : length g.finding.items < 2 ^ 32 = (let f = c.in_ok-short-2.ensures.fits in let l = c.len.ensures in let o = g.finding.ok.0 in omega (arith, f, l, o)) in
    let few : c.args.promises < 2 ^ 31 = omega (arith, c.if-promises-gt2147483647.false) in
    fits_of c.args.given c.args.clauses.now c.args.promises g c.requires c.in_ok-flat.ensures.promises few c.in_ok-short.ensures.fits many c.in_ok-flat.ensures.on c.in_ok-flat.ensures.ways

pub returns-clause-numbered : goal.returns-clause-numbered
returns-clause-numbered c = numbered_of c.args.given c.args.clauses.now c.in_ok-flat.flat c.in_ok-flat.ensures.on c.in_ok-flat.ensures.ways
