use Rattle.std.proofs.Common.{◌≡◌, ◌<◌, ◌≤◌, length, take, set, ap, ◌∙◌, ⊎_elim, arith}
use Rattle.std.proofs.lemmas.Bool.{cases_lt}
use Rattle.std.proofs.lemmas.List.{take_all}
use Rattle.hdr_counts.specs.Blocks.{capped_sums}
use Rattle.hdr_counts.proofs.BlocksCapped.{capped-length, capped-write, capped-all}
use Rattle.hdr_counts.proofs.Counts.add_one_by_one.Given as given
use Rattle.hdr_counts.proofs.Counts.add_one_by_one.Goals as goal
use Rattle.hdr_counts.proofs.Counts.add_one_by_one.Goals.{In-loop-i}

inside : (g : given.Over) (c : In-loop-i g) → c.loop-i.i < length c.loop-i.self.numbers
inside g c =
    omega (arith, ap (λ v. length v.numbers) c.loop-i.invariant, capped-length g.T.Counter.greatest c.args.self.now.numbers (take c.loop-i.i c.args.source.now.numbers))

pub get-requires : goal.get-requires
get-requires g c = inside g (goal.at.get-requires g c).In-loop-i

pub set-requires : goal.set-requires
set-requires g c = inside g (goal.at.set-requires g c).In-loop-i

pub loop-i-preserved : goal.loop-i-preserved
loop-i-preserved g c =
    let same : c.loop-i.self.block ≡ c.args.self.now.block = ap (λ v. v.block) c.loop-i.invariant in
    c.set.ensures
    ∙ ap (λ b. record { block = b; numbers = set c.loop-i.self.numbers c.loop-i.i (g.T.Counter.number c.saturating_from.result) }) same
    ∙ ap (λ l. record { block = c.args.self.now.block; numbers = l })
    (capped-write g.T.Counter.greatest c.args.self.now.numbers c.args.source.now.numbers c.loop-i.self.numbers c.loop-i.i (g.T.Counter.number c.saturating_from.result) (ap (λ v. v.numbers) c.loop-i.invariant) (omega arith) (omega arith)
    (omega (arith, c.saturating_from.ensures, c.from.ensures, c.from-in-loop-i.ensures, c.get.ensures, c.get-in-loop-i.ensures, c.as_u64.ensures.value, c.as_u64-in-loop-i.ensures.value, g.met.T.Counter.fits)))

pub returns : goal.returns
returns g c =
    let ms = c.args.self.now.numbers in
    let ns = c.args.source.now.numbers in
    c.loop-i.invariant
    ∙ ap (λ l. record { block = c.args.self.now.block; numbers = l })
    (⊎_elim
    (λ (lt : c.loop-i.i < length ms). ap (capped_sums g.T.Counter.greatest ms) (take_all c.loop-i.i ns (omega arith)))
    (λ (ge : length ms ≤ c.loop-i.i). capped-all g.T.Counter.greatest ms ns c.loop-i.i ge)
    (cases_lt c.loop-i.i (length ms)))
