use Rattle.mx_files.proofs.perform.perform_memory.Goals as goal

pub returns : goal.returns
returns g c =
    let led = c.run_memory.ensures.runs in
    record { performs = (led.0, led.1, record { written = _; run = _; runs = led.2; ends = c.pass_on.ensures.ends }) }
