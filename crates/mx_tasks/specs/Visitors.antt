-- Clients in memory.
use Rattle.std.specs.Prelude.{Some, length, map, option_map}
use Rattle.mx_desk.specs.Clients.{Exchange}
use Rattle.mx_tasks.specs.Clients.{Clients}
use Rattle.mx_tasks.specs.declared.serve.visitors.Pipe.{Pipe}
use Rattle.mx_tasks.specs.declared.serve.visitors.Visitors.{Visitors}

-- what came of a client, and what was written to it
abbrev pub exchange_over : Pipe → Exchange
exchange_over p = record { came = p.received.items; answer = p.written.items }

-- how many will come, and what was told of those whose connections have ended
abbrev pub visitors : Visitors → Clients
visitors v = record { coming = Some (length v.coming.items); ended = option_map (λ all. map exchange_over all.items) v.ended }
