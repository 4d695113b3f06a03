use Rattle.request_service.proofs.Commands.{served_for, stopped_for, no_container_task, no_account_task, asks_get, asks_listing, asks_container, asks_account, fits_there}
use Rattle.request_service.proofs.command.serve_command.Goals as goal

pub returns-in-Get-clause-served : goal.returns-in-Get-clause-served
returns-in-Get-clause-served g c =
    served_for _ _ _ _ _ _ _ c.serve_stages.result _ _
    (asks_get _ _ _ _ _ c.new-stages.ensures.request c.in-Get.is)
    c.serve_stages.ensures.served

pub returns-in-Get-clause-stopped : goal.returns-in-Get-clause-stopped
returns-in-Get-clause-stopped g c =
    stopped_for _ _ _ _ _ _ _ c.serve_stages.result _ _
    (asks_get _ _ _ _ _ c.new-stages.ensures.request c.in-Get.is) _
    c.serve_stages.ensures.stopped

pub returns-in-Listing-clause-served : goal.returns-in-Listing-clause-served
returns-in-Listing-clause-served g c =
    served_for _ _ _ _ _ _ _ c.serve_stages-in-Listing.result _ _
    (asks_listing _ _ _ _ _ _ c.new-stages-in-Listing.ensures.command c.in-Listing.is)
    c.serve_stages-in-Listing.ensures.served

pub returns-in-Listing-clause-stopped : goal.returns-in-Listing-clause-stopped
returns-in-Listing-clause-stopped g c =
    stopped_for _ _ _ _ _ _ _ c.serve_stages-in-Listing.result _ _
    (asks_listing _ _ _ _ _ _ c.new-stages-in-Listing.ensures.command c.in-Listing.is) _
    c.serve_stages-in-Listing.ensures.stopped

-- ---- a container

pub returns-in-Ok-clause-served : goal.returns-in-Ok-clause-served
returns-in-Ok-clause-served g c =
    served_for _ _ _ _ _ _ _ c.serve_stages-in-Container.result _ _
    (asks_container _ _ _ _ _ c.in-Ok.ensures.command c.in-Container.is)
    c.serve_stages-in-Container.ensures.served

pub returns-in-Ok-clause-stopped : goal.returns-in-Ok-clause-stopped
returns-in-Ok-clause-stopped g c =
    stopped_for _ _ _ _ _ _ _ c.serve_stages-in-Container.result _ _
    (asks_container _ _ _ _ _ c.in-Ok.ensures.command c.in-Container.is) _
    c.serve_stages-in-Container.ensures.stopped

pub returns-in_default-clause-stopped : goal.returns-in_default-clause-stopped
returns-in_default-clause-stopped g c = no_container_task _ _ _ _ _ _ _ c.requires.ready.failed c.requires.ready.new _ c.in-Container.command c.in-Container.is

-- ---- an account

pub returns-in-Ok-accounts-clause-served : goal.returns-in-Ok-accounts-clause-served
returns-in-Ok-accounts-clause-served g c =
    served_for _ _ _ _ _ _ _ c.serve_stages-in-Account.result _ _
    (asks_account _ _ _ _ _ _ c.in-Ok-accounts.ensures.command c.in-Ok-accounts.ensures.beside c.in-Account.is)
    c.serve_stages-in-Account.ensures.served

pub returns-in-Ok-accounts-clause-stopped : goal.returns-in-Ok-accounts-clause-stopped
returns-in-Ok-accounts-clause-stopped g c =
    stopped_for _ _ _ _ _ _ _ c.serve_stages-in-Account.result _ _
    (asks_account _ _ _ _ _ _ c.in-Ok-accounts.ensures.command c.in-Ok-accounts.ensures.beside c.in-Account.is) _
    c.serve_stages-in-Account.ensures.stopped

pub returns-in_default-accounts-clause-stopped : goal.returns-in_default-accounts-clause-stopped
returns-in_default-accounts-clause-stopped g c = no_account_task _ _ _ _ _ _ _ c.requires.ready.failed c.requires.ready.new _ c.in-Account.command c.in-Account.listing c.in-Account.is

pub serve_stages-requires-in-Account-clause-fits : goal.serve_stages-requires-in-Account-clause-fits
serve_stages-requires-in-Account-clause-fits g c κs within = fits_there c.in-Ok-accounts.stages.task _ (g.D.Door.settings c.args.connection.now.door.now) c.in-Ok-accounts.ensures.command c.in-Ok-accounts.ensures.fits
