-- When requests are due, and when they end.
use Rattle.std.specs.Prelude.{ℕ, ◌+◌, max}
use Rattle.hdr_load.specs.declared.client.Client.{Client}

-- the first request is due at 0
abbrev pub new_client : ℕ → Client
new_client interval = record { interval = interval; due = 0; free = 0 }

-- a request starts when it is due or when the one before it has ended, whichever is later
abbrev pub after_request : Client → ℕ → Client
after_request c service = record { interval = c.interval; due = c.due + c.interval; free = max c.due c.free + service }
