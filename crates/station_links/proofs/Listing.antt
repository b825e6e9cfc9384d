-- What calls say, one call after another.
use Rattle.std.proofs.Common.{◌≡◌, ℕ, ◌+◌, ◌<◌, List, [], ◌∷◌, ◌++◌, length, take, get_or}
use Rattle.std.proofs.Common.{sym, ap, ◌∙◌}
use Rattle.std.proofs.lemmas.List.{take_more}
use Rattle.std.proofs.lemmas.List.Elements.{filter_map-append}
use Rattle.link_model.specs.declared.call.Call.{Call}
use Rattle.station_links.specs.declared.link_line.LinkLine.{LinkLine}
use Rattle.station_links.specs.LinkLines.{line_in, lines_in}

pub lines_more : (calls : List Call) (i : ℕ) (call : Call) (before after : List LinkLine)
    → i < length calls → call ≡ get_or calls i call → before ≡ lines_in (take i calls)
    → after ≡ before ++ lines_in (call ∷ []) → after ≡ lines_in (take (i + 1) calls)
lines_more calls i call before after there is so more =
    more ∙ ap (λ (b : List LinkLine). b ++ lines_in (call ∷ [])) so
    ∙ sym (filter_map-append line_in (take i calls) (call ∷ []))
    ∙ ap (λ (c : Call). lines_in (take i calls ++ c ∷ [])) is
    ∙ sym (ap lines_in (take_more calls i call there))
