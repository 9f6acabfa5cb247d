use Rattle.std.proofs.Common.{◌≡◌, [], ◌∷◌, map, sym, subst, ◌∙◌, append-nil}
use Rattle.hdr_log.specs.Grammar.{reading}
use Rattle.hdr_log.specs.Pieces.{piece_text, entries_of_piece, is_read}
use Rattle.hdrhistogram.specs.LogLeaving.{interval_piece}
use Rattle.hdr_surface.proofs.own_serializer.own_bytes_are_read.Goals as goal

pub returns : goal.returns
returns g c = λ h tag start duration divisor text i.
    let piece = interval_piece h tag start duration divisor i.0 in
    let whole = append-nil (piece_text piece) ∙ sym i.3 in
    let read = subst (λ t. reading t ≡ map is_read (entries_of_piece piece)) whole (c.written_is_read.ensures (piece ∷ []) (i.2, tt)) in
    (i.0, i.1, read, c.base64_is_read.ensures.decoded i.0 i.4)
