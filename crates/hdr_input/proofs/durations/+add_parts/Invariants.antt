use Rattle.hdr_input.proofs.durations.+add_parts.Given as goal

-- how many more parts may come
abbrev pub decreases-add_parts : goal.decreases-add_parts
decreases-add_parts l = l.most
