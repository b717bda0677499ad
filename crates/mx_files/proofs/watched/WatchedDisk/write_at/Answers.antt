use Rattle.mx_files.proofs.watched.WatchedDisk.write_at.Goals as goal

pub returns-clause-frozen : goal.returns-clause-frozen
returns-clause-frozen g c = λ frozen.
    let (err, stays) = c.write_at.ensures.frozen frozen in
    (err, record { frozen = stays.frozen; same = stays.same; clean = stays.clean; no_more = stays.no_more; no_fewer = stays.no_fewer })
