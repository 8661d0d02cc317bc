use Rattle.std.proofs.Common.{◌≡◌, [], IfOk, Some, string_bytes, sym, ap, subst, ◌∙◌, rules}
use Rattle.stores.specs.Mixed.{single_stores, pair_stores, eight_stores}
use Rattle.runfile.specs.declared.faults.HeaderFault.{HeaderFault}
use Rattle.runfile.specs.declared.faults.RunFault.TheVariants.{Header as HeaderBroken}
use Rattle.listings.specs.Listed.{listing_stores}
use Rattle.listings.specs.Text.{listing_text}
use Rattle.listings.proofs.Chosen.{listed_over, listed_elsewhere}
use Rattle.listings.proofs.listed.list_sound.Goals as goal

pub returns-in_ok-single_row-in-1 : goal.returns-in_ok-single_row-in-1
returns-in_ok-single_row-in-1 c =
    listed_over string_bytes c.args.file.now c.args.header (single_stores c.in_ok-single_row-in-1.field-0) c.requires
    (c.in_ok-single_row-in-1.ensures.1 ∙ ap (λ m. listing_stores m c.args.header.objects) (sym c.in-1.is))
    c.list_over.result c.list_over.ensures

pub returns-in_ok-pair_row-in-2 : goal.returns-in_ok-pair_row-in-2
returns-in_ok-pair_row-in-2 c =
    listed_over string_bytes c.args.file.now c.args.header (pair_stores c.in_ok-pair_row-in-2.field-0) c.requires
    (c.in_ok-pair_row-in-2.ensures.1 ∙ ap (λ m. listing_stores m c.args.header.objects) (sym c.in-2.is))
    c.list_over-in-2.result c.list_over-in-2.ensures

pub returns-in_ok-eight_row-in-8 : goal.returns-in_ok-eight_row-in-8
returns-in_ok-eight_row-in-8 c =
    listed_over string_bytes c.args.file.now c.args.header (eight_stores c.in_ok-eight_row-in-8.field-0) c.requires
    (c.in_ok-eight_row-in-8.ensures.1 ∙ ap (λ m. listing_stores m c.args.header.objects) (sym c.in-8.is))
    c.list_over-in-8.result c.list_over-in-8.ensures

pub returns-in_default : goal.returns-in_default
returns-in_default c =
    listed_elsewhere string_bytes c.args.file.now c.args.header c.requires (search rules) (search rules) (search rules) c.list_nothing.result
    (subst (λ (f : HeaderFault). IfOk c.list_nothing.result (λ text. string_bytes text ≡ listing_text [] (Some (HeaderBroken f)))) c.at.ensures c.list_nothing.ensures)
