-- The groups of answers have a spelling.
use Rattle.std.proofs.Common.{◌≡◌, ℕ, List, [], ◌∷◌, map, subst, sym}
use Rattle.std.specs.List.{AllByRecursion}
use Rattle.ipp_codec.specs.Grammar.{IsGroup}
use Rattle.ipp_codec.specs.Message.{IppGroup}
use Rattle.job_objects.specs.Job.{JobRecord}
use Rattle.printer_objects.specs.JobAttribute.{wanted_of}
use Rattle.printer_objects.specs.Offer.{OfferRecord}
use Rattle.printer_objects.proofs.Spelt.{job_spelt, printer_spelt}
use Rattle.listings.specs.Groups.{shown_job, shown_printer, job_group, job_groups, printer_group}
use Rattle.listings.specs.Listing.{WantedJobs, listing}
use Rattle.print_room.specs.State.{State}

each_spelt : (now : ℕ) (requested : List (List ℕ)) (state : State) (jobs : List JobRecord) → AllByRecursion IsGroup (map (job_group now requested state) jobs)
each_spelt now requested state [] = tt
each_spelt now requested state (job ∷ jobs) = (job_spelt (shown_job now state job) (wanted_of requested), each_spelt now requested state jobs)

pub jobs_spelt : (wanted : WantedJobs) (now : ℕ) (requested : List (List ℕ)) (state : State) (groups : List IppGroup) → groups ≡ job_groups wanted now requested state → AllByRecursion IsGroup groups
jobs_spelt wanted now requested state groups are = subst (AllByRecursion IsGroup) (sym are) (each_spelt now requested state (listing now state wanted))

pub printer_is_spelt : (place : ℕ) (offer : OfferRecord) (now : ℕ) (requested : List (List ℕ)) (state : State) (group : IppGroup) → group ≡ printer_group place offer now requested state → IsGroup group
printer_is_spelt place offer now requested state group is = subst IsGroup (sym is) (printer_spelt (shown_printer place offer now state) requested)
