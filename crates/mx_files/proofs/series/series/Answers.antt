use Rattle.mx_files.proofs.SeriesLemmas.{life_performed, series_lives}
use Rattle.mx_files.proofs.series.series.Goals as goal

pub returns : goal.returns
returns g c = record { life = life_performed; series = series_lives }
