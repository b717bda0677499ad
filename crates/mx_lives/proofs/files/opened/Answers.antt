use Rattle.mx_lives.proofs.files.opened.Goals as goal

pub returns-in-Ok : goal.returns-in-Ok
returns-in-Ok g c = record {
  over = λ clean. let finds = c.in-Ok.ensures.found clean in (record { holds = finds.holds; reads = finds.reads }, c.in-Ok.ensures.opened clean);
  sums = c.in-Ok.ensures.sums;
  clean = λ clean. (c.in-Ok.ensures.found clean).honest;
}
