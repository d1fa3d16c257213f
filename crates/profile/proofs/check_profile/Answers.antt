-- `check_profile` meets its contract: 5 and 7, then type by type. Assumes nothing.
use mathlib.Core.Path.{◌≡◌, sym, ◌∙◌}
use mathlib.Core.Bool.{false}
use native.Mathlib.Omega.{arith}
use Rattle.frame.specs.Widths.{outside, late}
use Rattle.frame.proofs.WidthLaws.{told-outside, told-within, told-late, told-hour}
use Rattle.profile.proofs.ArmLaws.{check5, check7, by-position, by-healths, by-null, by-corrections, by-text, other-type}
use Rattle.profile.proofs.check_profile.Goals as goal

pub returns-in_default : goal.returns-in_default
returns-in_default c = check5 c.args.frame (told-outside _ (sym c.in_default.is ∙ c.frame_widths.ensures))

pub returns-in_default-clock_of : goal.returns-in_default-clock_of
returns-in_default-clock_of c =
    let within : outside c.args.frame ≡ false = told-within _ (sym c.in-Ok.is ∙ c.frame_widths.ensures) in
    check7 c.args.frame within (told-late _ (sym c.in_default-clock_of.is ∙ c.clock_of.ensures))

pub returns-in-3 : goal.returns-in-3
returns-in-3 c =
    let within : outside c.args.frame ≡ false = told-within _ (sym c.in-Ok.is ∙ c.frame_widths.ensures) in
    let hour : late c.args.frame.header.z ≡ false = told-hour _ (sym c.in-Ok-clock_of.is ∙ c.clock_of.ensures) in
    c.position_profile.ensures ∙ by-position c.args.frame within hour c.in-3.is

pub returns-in-5 : goal.returns-in-5
returns-in-5 c =
    let within : outside c.args.frame ≡ false = told-within _ (sym c.in-Ok.is ∙ c.frame_widths.ensures) in
    let hour : late c.args.frame.header.z ≡ false = told-hour _ (sym c.in-Ok-clock_of.is ∙ c.clock_of.ensures) in
    c.healths_profile.ensures ∙ by-healths c.args.frame within hour c.in-5.is

pub returns-in-6 : goal.returns-in-6
returns-in-6 c =
    let within : outside c.args.frame ≡ false = told-within _ (sym c.in-Ok.is ∙ c.frame_widths.ensures) in
    let hour : late c.args.frame.header.z ≡ false = told-hour _ (sym c.in-Ok-clock_of.is ∙ c.clock_of.ensures) in
    c.null_profile.ensures ∙ by-null c.args.frame within hour c.in-6.is

pub returns-in-9 : goal.returns-in-9
returns-in-9 c =
    let within : outside c.args.frame ≡ false = told-within _ (sym c.in-Ok.is ∙ c.frame_widths.ensures) in
    let hour : late c.args.frame.header.z ≡ false = told-hour _ (sym c.in-Ok-clock_of.is ∙ c.clock_of.ensures) in
    c.corrections_profile.ensures ∙ by-corrections c.args.frame within hour c.in-9.is

pub returns-in-16 : goal.returns-in-16
returns-in-16 c =
    let within : outside c.args.frame ≡ false = told-within _ (sym c.in-Ok.is ∙ c.frame_widths.ensures) in
    let hour : late c.args.frame.header.z ≡ false = told-hour _ (sym c.in-Ok-clock_of.is ∙ c.clock_of.ensures) in
    c.text_profile.ensures ∙ by-text c.args.frame within hour c.in-16.is

pub returns-in_default-kind : goal.returns-in_default-kind
returns-in_default-kind c =
    let within : outside c.args.frame ≡ false = told-within _ (sym c.in-Ok.is ∙ c.frame_widths.ensures) in
    let hour : late c.args.frame.header.z ≡ false = told-hour _ (sym c.in-Ok-clock_of.is ∙ c.clock_of.ensures) in
    other-type c.args.frame within hour (λ e. omega arith) (λ e. omega arith) (λ e. omega arith) (λ e. omega arith) (λ e. omega arith)
