-- What the status page answers: a function of the snapshot, the method and the path. This product's
-- own, but for the meaning of the statuses (RFC 9110, section 15).
use Rattle.std.specs.Prelude.{ℕ, Bool, true, false, ◌||◌, List, [], ◌∷◌, Option, Some, None, codes, bytes_eq}
use Rattle.std.specs.Prelude.{if◌then◌else◌}
use Rattle.http.specs.declared.request.Request.{Request}
use Rattle.http.specs.Request.{head_of}
use Rattle.http1.specs.Fields.{Header}
use Rattle.http_uri.specs.Uri.{uri_path}
use Rattle.http_server.specs.declared.response.Response.{Response}
use Rattle.http_server.specs.Response.{IsResponse}
use Rattle.station_snapshot.specs.declared.snapshot.Snapshot.{Snapshot}
use Rattle.station_health.specs.Health.{is_healthy, health_text}
use Rattle.status_view.specs.Page.{page_text}
use Rattle.status_page.specs.declared.resource.Resource.{Resource}
use Rattle.status_page.specs.declared.resource.Resource.TheVariants as r
use Rattle.status_page.specs.Json.{json_text}
use Rattle.status_page.specs.Metrics.{metrics_text}

-- what is at a path
abbrev pub resource_at : List ℕ → Option Resource
resource_at path = if bytes_eq path (codes "/") then Some r.Page
    else (if bytes_eq path (codes "/status.json") then Some r.Json
    else (if bytes_eq path (codes "/metrics") then Some r.Metrics
    else (if bytes_eq path (codes "/health") then Some r.Health else None)))

abbrev pub is_read : List ℕ → Bool
is_read method = bytes_eq method (codes "GET") || bytes_eq method (codes "HEAD")

abbrev pub kind_of : Resource → List ℕ
kind_of r.Page = codes "text/html; charset=utf-8"
kind_of r.Json = codes "application/json"
kind_of r.Metrics = codes "text/plain; version=0.0.4"
kind_of r.Health = codes "text/plain; charset=utf-8"

abbrev pub body_of : Resource → Snapshot → List ℕ
body_of r.Page s = page_text s
body_of r.Json s = json_text s
body_of r.Metrics s = metrics_text s
body_of r.Health s = health_text s

-- health alone has a status of its own
abbrev pub code_of : Resource → Snapshot → ℕ
code_of r.Page s = 200
code_of r.Json s = 200
code_of r.Metrics s = 200
code_of r.Health s = if is_healthy s then 200 else 503

-- each answer is its connection's last one
abbrev pub close_field : Header
close_field = (codes "connection", codes "close")

-- an answer: its status, its fields and its content
pub record Answer : Type 0 where
  pub code : ℕ
  pub fields : List Header
  pub content : List ℕ

abbrev pub found : Resource → Snapshot → Answer
found resource s = record {
  code = code_of resource s;
  fields = (codes "content-type", kind_of resource) ∷ ((codes "cache-control", codes "no-store") ∷ (close_field ∷ []));
  content = body_of resource s;
}

abbrev pub not_found : Answer
not_found = record { code = 404; fields = close_field ∷ []; content = [] }

abbrev pub not_allowed : Answer
not_allowed = record { code = 405; fields = (codes "allow", codes "GET, HEAD") ∷ (close_field ∷ []); content = [] }

abbrev pub answer_of : Bool → Option Resource → Snapshot → Answer
answer_of read None s = not_found
answer_of true (Some resource) s = found resource s
answer_of false (Some resource) s = not_allowed

-- the answer to a method and a path
abbrev pub answer : Snapshot → List ℕ → List ℕ → Answer
answer s method path = answer_of (is_read method) (resource_at path) s

abbrev pub IsAnswer : Answer → Response → Type 0
IsAnswer a response = IsResponse a.code a.fields a.content response

abbrev pub Answers : Snapshot → Request (List ℕ) → Response → Type 0
Answers s request response = IsAnswer (answer s (head_of request).method (uri_path (head_of request).uri)) response
