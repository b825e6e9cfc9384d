-- The calls that a status page answers.
use Rattle.std.proofs.Common.{◌≡◌, ℕ, List, [], ◌∷◌, All, subst, ◌∙◌}
use Rattle.std.proofs.lemmas.List.Elements.{All-nil, All-cons}
use Rattle.http.specs.declared.request.Request.{Request}
use Rattle.http_server.specs.declared.response.Response.{Response}
use Rattle.http_server.specs.Exchange.{Call, Chain, Calls}
use Rattle.status_page.specs.declared.service.StatusPage.{StatusPage}
use Rattle.status_page.specs.Answers.{Answers}
use Rattle.status_port.specs.Answered.{IsAnswered, AnsweredSince}

-- what a status page does for a request
abbrev pub answers : StatusPage → Request (List ℕ) → Response → StatusPage → Type 0
answers old request response new = (new ≡ old) × Answers old.snapshot request response

-- one after another
chain_answered : (calls : List Call) (old new : StatusPage) → Chain answers old calls new
    → (new ≡ old) × All (IsAnswered old.snapshot) calls
chain_answered [] old new h = (h, All-nil (IsAnswered old.snapshot))
chain_answered (c ∷ calls) old new h =
    let later : (new ≡ h.0) × All (IsAnswered h.0.snapshot) calls = chain_answered calls h.0 new h.2 in
    let same : h.0 ≡ old = h.1.0 in (
      later.0 ∙ same,
      All-cons (IsAnswered old.snapshot) c calls h.1.1
          (subst (λ (t : StatusPage). All (IsAnswered t.snapshot) calls) same later.1),
    )

-- those between two points
pub page_kept : (old new : StatusPage) (before after : List Call) → Calls answers old new before after → new ≡ old
page_kept old new before after h = (chain_answered h.0 old new h.2).0

pub calls_answered : (old new : StatusPage) (before after : List Call) → Calls answers old new before after
    → AnsweredSince old.snapshot before after
calls_answered old new before after h = (h.0, h.1, (chain_answered h.0 old new h.2).1)
