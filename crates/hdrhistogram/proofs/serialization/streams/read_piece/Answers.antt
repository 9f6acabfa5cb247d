use Rattle.std.proofs.Common.{min, ◌≡◌, arith, rules, length, ap, sym, ◌∙◌, ◌+◌, length-take, length-drop}
use Rattle.hdrhistogram.proofs.StreamsReaders.{piece_text, grown_front}
use Rattle.hdrhistogram.proofs.serialization.streams.read_piece.Goals as goal

pub returns-clause-ok : goal.returns-clause-ok
returns-clause-ok g c =
    let old = c.args.buffer.now.items in
    let grown = c.deref_mut.result.now in
    let part = c.read_exact.new.buffer in
    let start : c.len-start.result ≡ length old = c.len-start.ensures ∙ c.args.buffer.now.ok.0 in
    let grows = c.in-Ok.ensures.len ∙ ap (λ n. n + c.min-piece.result) (sym c.len-start.ensures) in
    let size : length grown ≡ c.len-start.result + c.min-piece.result = c.deref_mut.ensures.len ∙ grows in
    let filled : length part ≡ c.min-piece.result = c.read_exact.auto.buffer ∙ simp (length-take, length-drop) (omega arith) in (
      part,
      (let most : c.min-piece.result ≡ min c.args.left 4096 = search rules in filled ∙ most),
      piece_text old grown part _ c.len-start.result c.min-piece.result _ (grown_front old grown _ c.len-start.result start (c.deref_mut.ensures.value ∙ c.in-Ok.ensures.ok)) start size filled grows,
      c.in_ok-read_exact.ensures.ok,
    )
