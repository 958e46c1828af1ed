use Rattle.size_pages.proofs.Pages.waiting.Goals as goal

pub returns : goal.returns
returns c m live waiting h = h.waits
