use Rattle.std.proofs.Common.{◌≡◌, false, ap, sym, rules, ◌∙◌}
use Rattle.std.specs.Prelude.{codes}
use Rattle.station_config.specs.Drafts.{empty, told_from, finished}
use Rattle.script_head.specs.Head.{is_site}
use Rattle.script_head.proofs.FirstLines.{line_in}
use Rattle.script_head.proofs.Heads.{no_settings, all_run, site_line}
use Rattle.script_head.proofs.Heads.{settings_told, ended, unended}
use Rattle.script_head.proofs.head.split_head.Goals as goal

pub returns-then-ne-clause-site : goal.returns-then-ne-clause-site
returns-then-ne-clause-site c =
    let other : is_site (line_in c.args.script.now) ≡ false =
    rw (← c.split_line.ensures.line) (search rules) in
    ap (λ lines. finished (told_from 2 empty lines)) (sym (no_settings c.args.script.now other))

pub returns-then-ne-clause-splits : goal.returns-then-ne-clause-splits
returns-then-ne-clause-splits c =
    let other : is_site (line_in c.args.script.now) ≡ false =
    rw (← c.split_line.ensures.line) (search rules) in
    all_run c.args.script.now other

pub returns-in_default-clause-splits : goal.returns-in_default-clause-splits
returns-in_default-clause-splits c =
    let is : line_in c.args.script.now ≡ codes "site" = site_line c.args.script.now
    (rw (← c.split_line.ensures.line) (search rules)) in
    let parts = unended c.args.script.now c.find_end-found.result.lines is
    (rw c.behind_site-others.ensures at c.find_end-found.ensures.count)
    (rw (c.behind_site-others.ensures, c.in_default.is) at c.find_end-found.ensures.behind) in
    (parts.0, parts.1 ∙ sym c.max.ensures)

pub returns-clause-splits : goal.returns-clause-splits
returns-clause-splits c =
    let is : line_in c.args.script.now ≡ codes "site" = site_line c.args.script.now
    (rw (← c.split_line.ensures.line) (search rules)) in
    ended c.args.script.now c.in-Some.rest.now c.find_end-found.result.lines is
    (rw c.behind_site-others.ensures at c.find_end-found.ensures.count)
    (rw (c.behind_site-others.ensures, c.in-Some.is) at c.find_end-found.ensures.behind)

pub returns-clause-site : goal.returns-clause-site
returns-clause-site c =
    let is : line_in c.args.script.now ≡ codes "site" = site_line c.args.script.now
    (rw (← c.split_line.ensures.line) (search rules)) in
    ap finished (c.find_end-found.ensures.told
    ∙ rw c.behind_site-others.ensures (settings_told c.args.script.now is))

pub returns-in_default-clause-site : goal.returns-in_default-clause-site
returns-in_default-clause-site c =
    let is : line_in c.args.script.now ≡ codes "site" = site_line c.args.script.now
    (rw (← c.split_line.ensures.line) (search rules)) in
    ap finished (c.find_end-found.ensures.told
    ∙ rw c.behind_site-others.ensures (settings_told c.args.script.now is))
