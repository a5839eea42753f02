use Rattle.project_surfaces.proofs.More.{surfaces_more}
use Rattle.project_surfaces.proofs.gather.ProjectSurfaces.put.Goals as goal

pub returns : goal.returns
returns c types t placed is apart so = record {
  surfaces = surfaces_more types t c.args.surface c.args.self.now.surfaces c.put_surface.new.surfaces c.args.self.now.keys.items c.put_keys.new.keys.items is apart
      c.in_ok-put_surface.ensures c.in_ok-put_keys.ensures so.surfaces;
  form = c.unfit_with-self.ensures types t placed is so.form;
}
