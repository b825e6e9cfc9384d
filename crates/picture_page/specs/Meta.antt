-- What a page says of itself to a browser (HTML, 4.2.5).
use Rattle.std.specs.Prelude.{ℕ, List, ◌++◌, codes, decimal}
use Rattle.picture_page.specs.declared.meta.Meta.{Meta}
use Rattle.picture_page.specs.declared.meta.Meta.TheVariants as m

-- a text between two others
unfoldable pub between : List ℕ → List ℕ → List ℕ → List ℕ
between before text after = before ++ text ++ after

abbrev pub meta_text : Meta → List ℕ
meta_text m.Charset = codes "<meta charset=\"utf-8\">"
meta_text m.Viewport = codes "<meta name=\"viewport\" content=\"width=device-width, initial-scale=1\">"
meta_text (m.Refresh seconds) =
    between (codes "<meta http-equiv=\"refresh\" content=\"") (decimal seconds) (codes "\">")
