-- What is promised of requests holds of any, from any World.
use Rattle.std.proofs.Common.{◌≡◌, List, ◌++◌, sym, subst, ap, ◌∙◌}
use Rattle.mx_book.specs.World.{World, Name}
use Rattle.mx_office.specs.Isolation.{cut}
use Rattle.mx_office.specs.Reachable.{IsReachable}
use Rattle.mx_desk.specs.Isolation.{seen, told}
use Rattle.mx_desk.specs.Leaves.{Lawful}
use Rattle.mx_desk.specs.Serve.{Marked, world_after}
use Rattle.mx_desk.proofs.ApartLemmas.{are_apart}
use Rattle.mx_desk.proofs.ConservationLemmas.{reachable_requests, never_full_requests}
use Rattle.mx_desk.proofs.LawLemmas.{told_alike, world_after-append}
use Rattle.mx_desk.proofs.RefinedLemmas.{requests_refine, requests_refine_from_none}

pub lawful_requests : (w now : World) (ms : List Marked) → now ≡ world_after w ms → Lawful w ms now
lawful_requests w now ms is = record {
  world = is;
  apart = are_apart w ms;
  reachable = λ from. subst IsReachable (sym is) (reachable_requests w ms from);
  never_full = never_full_requests w ms;
  refines = requests_refine w now ms is;
  from_none = requests_refine_from_none w now ms is;
}

-- requests, and more of them
pub lawful_then : (w now end : World) (ms ns : List Marked) → Lawful w ms now → Lawful now ns end → Lawful w (ms ++ ns) end
lawful_then w now end ms ns first rest =
    lawful_requests w end (ms ++ ns) (rest.world ∙ ap (λ v. world_after v ns) first.world ∙ sym (world_after-append w ms ns))

-- two lists of requests that look the same to a holder
pub lawful_alike : (h : Name) (v now w end : World) (ms ns : List Marked) → Lawful v ms now → Lawful w ns end → cut v h ≡ cut w h → seen h v ms ≡ seen h w ns
    → (told h v ms ≡ told h w ns) × (cut now h ≡ cut end h)
lawful_alike h v now w end ms ns x y same views =
    let both = told_alike h v w ms ns (x.apart h) (y.apart h) same views in
    (both.0, ap (λ u. cut u h) x.world ∙ both.1 ∙ sym (ap (λ u. cut u h) y.world))
