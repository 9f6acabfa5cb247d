use Rattle.std.proofs.lemmas.List.Elements.{recursion_from_All}
use Rattle.hdrhistogram.proofs.PayloadWriting.{one_split, parts_from, parts_split, text_from, payload_of_parts}
use Rattle.hdrhistogram.proofs.V2SameBytes.{one_text}
use Rattle.hdrhistogram.proofs.laws.one_payload.Goals as goal

pub returns-clause-parts : goal.returns-clause-parts
returns-clause-parts c counts = (parts_from 0 counts, parts_split 0 counts)

pub returns-clause-split : goal.returns-clause-split
returns-clause-split c = one_split

pub returns-clause-unique : goal.returns-clause-unique
returns-clause-unique c = one_text

pub returns-clause-exists : goal.returns-clause-exists
returns-clause-exists c counts few small = (text_from 0 counts, payload_of_parts counts few (recursion_from_All _ counts small))
