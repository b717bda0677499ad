use Rattle.mx_files.proofs.watched.WatchedDisk.set_len.Goals as goal

pub returns-clause-frozen : goal.returns-clause-frozen
returns-clause-frozen g c = λ frozen.
    let (err, stays) = c.set_len.ensures.frozen frozen in
    (err, record { frozen = stays.frozen; same = stays.same; clean = stays.clean; no_more = stays.no_more; no_fewer = stays.no_fewer })
