use Rattle.std.proofs.Common.{◌≡◌, ◌++◌, ◌∷◌, ◌+◌, ◌-◌, ◌<◌, List, ℕ, length, ap, subst, sym, ◌∙◌, append_assoc, arith}
use Rattle.std.proofs.lemmas.List.{length-append, take-append-drop}
use Rattle.octets.specs.declared.page.TheConstants.{PAGE_BYTES}
use Rattle.octets.specs.Pages.{joined, octets_in, IsFull, IsPaged}
use Rattle.octets.proofs.PageLemmas.{gone_on, full-append}
use Rattle.octets.proofs.pages.Pages.push.Goals as goal
use Rattle.octets.proofs.pages.Pages.push.Goals.{After-self-2-1, then-segment-room+in_ok-append, else-segment-room+in_ok-in_pages+in_ok-go_on}

-- the octets in the pages after either branch
octets_now : (c : After-self-2-1) → octets_in c.if-segment-room.self-inside.paged ≡ octets_in c.self.inside.paged ++ c.args.segment.now
octets_now c =
    let old = c.self.inside.paged in
    let segment = c.args.segment.now in
    elim c.if-segment-room.branch [
      | then-segment-room+in_ok-append w ↦
          ap (λ i. octets_in i.paged) w.self-inside-is ∙ ap (λ (l : List ℕ). joined old.pages.items ++ l) ((w.in_ok-append.ensures {u = tt}).ok) ∙ sym (append_assoc (joined old.pages.items) old.last segment)
      | else-segment-room+in_ok-in_pages+in_ok-go_on w ↦
          let later = w.in_ok-in_pages.field-0 in
          let gone = w.in_ok-go_on.ensures {u = tt} in
          let cut : segment ≡ w.split_at.result.0.now ++ w.split_at.result.1.now = rw (w.split_at.ensures.front, w.split_at.ensures.back) (sym (take-append-drop (PAGE_BYTES - length c.octets.result.now) segment)) in
          ap (λ i. octets_in i.paged) w.self-inside-is ∙ ap (λ (l : List (List ℕ)). joined l ++ w.go_on.new.self.last) gone.pages
          ∙ ap (λ (l : List ℕ). joined (old.pages.items ++ (old.last ++ w.split_at.result.0.now) ∷ later.pages.items) ++ l) gone.last
          ∙ gone_on old.pages.items later.pages.items old.last w.split_at.result.0.now w.split_at.result.1.now later.last segment (sym (w.in_ok-in_pages.ensures {u = tt}).0) cut
    ]

-- the pages are full as they have to be
paged_now : (c : After-self-2-1) → IsPaged c.if-segment-room.self-inside.paged
paged_now c =
    let old = c.self.inside.paged in
    elim c.if-segment-room.branch [
      | then-segment-room+in_ok-append w ↦
          let less : length w.append.new.self < PAGE_BYTES = omega (arith, ap length ((w.in_ok-append.ensures {u = tt}).ok), length-append old.last c.args.segment.now, w.if-segment-room.true, ap length c.octets.ensures, c.self.invariant.0.room) in
          subst (λ i. IsPaged i.paged) (sym w.self-inside-is) (record { full = c.self.invariant.0.full; room = less })
      | else-segment-room+in_ok-in_pages+in_ok-go_on w ↦
          let later = w.in_ok-in_pages.field-0 in
          let sound = (w.in_ok-in_pages.ensures {u = tt}).1 in
          let gone = w.in_ok-go_on.ensures {u = tt} in
          let page : IsFull (old.last ++ w.split_at.result.0.now) = omega (arith, length-append old.last w.split_at.result.0.now, w.split_at.ensures.front_len, ap length c.octets.ensures, c.self.invariant.0.room) in
          subst (λ i. IsPaged i.paged) (sym w.self-inside-is) (record {
            full = rw gone.pages (full-append old.pages.items ((old.last ++ w.split_at.result.0.now) ∷ later.pages.items) c.self.invariant.0.full (page, sound.full));
            room = rw gone.last sound.room;
          })
    ]

pub returns-clause-ok : goal.returns-clause-ok
returns-clause-ok c = octets_now c ∙ ap (λ (l : List ℕ). l ++ c.args.segment.now) c.self.view_is

pub invariant_of-self-2 : goal.invariant_of-self-2
invariant_of-self-2 c =
    let now : c.in-Some.len ≡ c.self.inside.len + length c.args.segment.now = (c.in-Some.ensures {u = tt}).1 in
    (paged_now c, omega (arith, now, c.self.invariant.1, ap length (octets_now c), length-append (octets_in c.self.inside.paged) c.args.segment.now))
